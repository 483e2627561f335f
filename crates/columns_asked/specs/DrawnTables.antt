-- A table of rows of texts, drawn under a compact style in a requested width: its sizes, its text and its picture.
use Rattle.std.specs.Prelude.{ℕ, ◌+◌, ◌-◌, ◌==◌, nat_le, List, [], ◌∷◌, ◌++◌, Option, None, Some, length, map, slice_index, encode_utf8_all, if◌then◌else◌}
use Rattle.grid_config.specs.Compact.{Compact}
use Rattle.grid_config.specs.Looks.{compact_look}
use Rattle.grid_config_values.specs.declared.position.Position.{Position}
use Rattle.grid_records_estimate.specs.Estimates.{greatest}
use Rattle.grid_records_estimate.specs.Sizes.{table_heights, table_widths}
use Rattle.grid_records_estimate.specs.Sizing.{compact_sizing}
use Rattle.grid_records_measure.specs.TextLines.{line_feed}
use Rattle.papergrid_picture.specs.Fitting.{InRange, first_too_wide, table_width}
use Rattle.papergrid_picture.specs.Frame.{Frame, frame_of, line_count}
use Rattle.papergrid_picture.specs.Shown.{Styled, character_of, in_plain, item_picture}
use Rattle.papergrid_picture.specs.Tables.{table_text}
use Rattle.columns_asked.specs.WidthLimits.{WidthLimit}
use Rattle.tabled_size_wrap.specs.Cells.Resizing.{Wrap, Cut, Keep, Resize, resized, resized_text}
use Rattle.columns_asked.specs.Shrunk.{shrunk_list}

-- the items of a picture with a line feed after its last line too
abbrev pub ended : {X : Type 0} → X → Frame → List X → List X
ended feed frame items = if line_count frame == 0 then [] else items ++ feed ∷ []

-- as many columns as the longest row has cells; a cell that a row lacks is empty
abbrev pub longest_row_length : {X : Type 0} → List (List X) → ℕ
longest_row_length rows = greatest (map (λ row. length row) rows)

-- each element by its column, where the first is in this one
abbrev pub by_column : {A B : Type 0} → (ℕ → A → B) → ℕ → List A → List B
by_column f column [] = []
by_column f column (x ∷ xs) = f column x ∷ by_column f (column + 1) xs

-- ---- sizes

module _ (style : Compact) where
  module _ (texts : List (List (List ℕ))) where
    -- the least sizes of a table of these texts
    abbrev pub widths_of : List ℕ
    widths_of = table_widths (compact_sizing style) (longest_row_length texts) texts

    abbrev pub heights_of : List ℕ
    heights_of = table_heights (compact_sizing style) (longest_row_length texts) texts

    -- where its rows and columns are
    abbrev pub frame_under : Frame
    frame_under = frame_of (compact_look style) widths_of heights_of

  -- the columns beside a cell's text
  abbrev pub paddings : ℕ
  paddings = style.padding.left.size + style.padding.right.size

  module _ (asked : WidthLimit) where
    -- the widths where they are shrunk: those of a table that would take more columns than it may, by just that excess,
    -- none below its paddings; none is ever widened
    abbrev pub narrow : List ℕ → ℕ → Option ℕ → Option (List ℕ)
    narrow natural total None = None
    narrow natural total (Some width) =
        if nat_le total width then None
        else Some (shrunk_list asked.priority (map (λ _. paddings) natural) (total - width) natural)

    abbrev pub narrowed : List (List (List ℕ)) → Option (List ℕ)
    narrowed texts = narrow (widths_of texts) (table_width (frame_under texts)) asked.width

    -- what is done to the cells of a column, where the widths are shrunk to these: they get the width that the paddings
    -- leave
    abbrev pub resize_in : Option (List ℕ) → ℕ → Resize
    resize_in None column = Keep
    resize_in (Some widths) column =
        let room = slice_index widths column - paddings in
        if asked.truncate then Cut room else Wrap room asked.keep_words

    abbrev pub widths_or : List ℕ → Option (List ℕ) → List ℕ
    widths_or natural None = natural
    widths_or natural (Some widths) = widths

    -- the texts that the table keeps, and its widths; its heights are those of the texts
    unfoldable pub resized_rows : List (List (List ℕ)) → List (List (List ℕ))
    resized_rows texts = map (by_column (λ column. resized_text (resize_in (narrowed texts) column)) 0) texts

    unfoldable pub asked_widths : List (List (List ℕ)) → List ℕ
    asked_widths texts = widths_or (widths_of texts) (narrowed texts)

    abbrev pub asked_frame : List (List (List ℕ)) → Frame
    asked_frame texts = frame_of (compact_look style) (asked_widths texts) (heights_of (resized_rows texts))

    -- ---- by bytes

    -- the text of the table, where each line ends with a line feed
    unfoldable pub asked_text : List (List (List ℕ)) → List ℕ
    asked_text texts =
        ended line_feed (asked_frame texts)
        (table_text (compact_look style) (resized_rows texts) (λ _. None) (asked_widths texts) (heights_of (resized_rows texts)))

    -- its width and its height fit a `usize`, both without a requested width and with it
    unfoldable pub AskedInRange : List (List (List ℕ)) → Type 0
    AskedInRange texts = InRange (frame_under texts) × InRange (asked_frame texts)

    -- the first cell by row, then column, with a line that takes more columns than its column has
    unfoldable pub too_wide : List (List (List ℕ)) → Option Position
    too_wide texts = first_too_wide (asked_frame texts) (resized_rows texts)

-- ---- in items that represent characters

module _ {X : Type 0} (character : X → ℕ) (bare : ℕ → X) where
  -- what cells show, as texts without sequences
  abbrev pub texts_in : List (List (List X)) → List (List (List ℕ))
  texts_in rows = map (map (λ cell. encode_utf8_all (map character cell))) rows

  module _ (style : Compact) (asked : WidthLimit) where
    -- the cells, each resized by its column
    unfoldable pub resized_cells : List (List (List X)) → List (List (List X))
    resized_cells rows = map (by_column (λ column. resized character bare (resize_in style asked (narrowed style asked (texts_in rows)) column)) 0) rows

    -- the picture of these cells
    unfoldable pub asked_items : List (List (List X)) → List X
    asked_items rows =
        let cells = resized_cells rows in
        let widths = asked_widths style asked (texts_in rows) in
        let heights = heights_of style (texts_in cells) in
        ended (bare line_feed) (frame_of (compact_look style) widths heights) (item_picture character bare (compact_look style) cells widths heights)

module _ (style : Compact) (asked : WidthLimit) where
  -- characters in their styles: glyphs, fills, line feeds and U+FFFD that are put in have the plain style
  abbrev pub asked_picture : List (List (List Styled)) → List Styled
  asked_picture rows = asked_items character_of in_plain style asked rows

  -- characters alone
  abbrev pub asked_characters : List (List (List ℕ)) → List ℕ
  asked_characters rows = asked_items (λ c. c) (λ c. c) style asked rows
