-- The text of a table in a requested width shows its picture.
use Rattle.std.proofs.Common.{◌≡◌, ◌==◌, ℕ, ◌+◌, Bool, true, false, All, List, [], ◌∷◌, ◌++◌, map, refl, ap, sym, subst, ◌∙◌, lit<, if◌then◌else◌}
use Rattle.std.specs.Prelude.{encode_utf8_all, Option}
use Rattle.std.specs.List.{AllByRecursion}
use Rattle.std.proofs.lemmas.List.Elements.{All-nil, All-push}
use Rattle.std.proofs.lemmas.Simd.{map-map}
use Rattle.std.proofs.lemmas.Str.{encode_ascii, encodes-chars}
use Rattle.ansi_scan.specs.Attributes.{plain_attributes}
use Rattle.ansi_scan.specs.Pieces.{pieces}
use Rattle.ansi_scan.proofs.Uniqueness.{pieces-ArePiecesOf}
use Rattle.ansi_str.specs.StyledText.{IsClosed, strip, styled}
use Rattle.ansi_str_search.proofs.TextLemmas.Utf8Pieces.{IsUtf8-shown_text}
use Rattle.grid_config.specs.Compact.{Compact}
use Rattle.grid_config.specs.Looks.{compact_look}
use Rattle.grid_records_measure.specs.TextLines.{line_feed}
use Rattle.papergrid_picture.specs.Fitting.{table_width}
use Rattle.papergrid_picture.specs.Frame.{Frame, frame_of, line_count}
use Rattle.papergrid_picture.specs.Shown.{AreWholeTexts, IsBare, IsWholeText, Shows, Styled, character_of, in_plain, stripped_texts, styled_picture, styled_texts}
use Rattle.papergrid_picture.proofs.Items.{feeds-plain}
use Rattle.papergrid_picture.proofs.Shown.{BeginsNoSequence-feed, ShowsHere, ShowsHere-append, ShowsHere-character, ShowsHere-nothing, characters-styled, map-same, styled_of, text-shown}
use Rattle.columns_asked.specs.WidthLimits.{WidthLimit}
use Rattle.columns_asked.specs.DrawnTables.{asked_frame, asked_picture, asked_text, asked_items, asked_widths, by_column, ended, frame_under, heights_of, resized_cells, resized_rows, narrow, narrowed, resize_in, texts_in, widths_of, widths_or}
use Rattle.tabled_size_wrap.specs.Cells.Resizing.{Resize, resized, resized_text}
use Rattle.tabled_size_wrap.proofs.CellsLemmas.Bridges.{resized-shows}
use Rattle.papergrid_picture.proofs.Stripped.{stripped}
use Rattle.columns_asked.proofs.Sizes.{frame-stripped, heights-stripped, widths-stripped}

-- ---- column by column

pub by_column-whole : (resize : ℕ → Resize) (column : ℕ) (row : List (List ℕ)) → AllByRecursion IsWholeText row → AllByRecursion IsWholeText (by_column (λ j. resized_text (resize j)) column row)
by_column-whole resize column [] all = tt
by_column-whole resize column (text ∷ row) all = ((resized-shows (resize column) text all.0).whole, by_column-whole resize (column + 1) row all.1)

rows-whole : (resize : ℕ → Resize) (rows : List (List (List ℕ))) → AreWholeTexts rows → AreWholeTexts (map (by_column (λ j. resized_text (resize j)) 0) rows)
rows-whole resize [] all = tt
rows-whole resize (row ∷ rows) all = (by_column-whole resize 0 row all.0, rows-whole resize rows all.1)

by_column-styled : (resize : ℕ → Resize) (column : ℕ) (row : List (List ℕ)) → AllByRecursion IsWholeText row
    → map styled_of (by_column (λ j. resized_text (resize j)) column row) ≡ by_column (λ j. resized character_of in_plain (resize j)) column (map styled_of row)
by_column-styled resize column [] all = refl
by_column-styled resize column (text ∷ row) all =
    ap (λ (cell : List Styled). cell ∷ map styled_of (by_column (λ j. resized_text (resize j)) (column + 1) row)) (resized-shows (resize column) text all.0).shown
    ∙ ap (λ (rest : List (List Styled)). resized character_of in_plain (resize column) (styled_of text) ∷ rest) (by_column-styled resize (column + 1) row all.1)

rows-styled : (resize : ℕ → Resize) (rows : List (List (List ℕ))) → AreWholeTexts rows
    → styled_texts (map (by_column (λ j. resized_text (resize j)) 0) rows) ≡ map (by_column (λ j. resized character_of in_plain (resize j)) 0) (styled_texts rows)
rows-styled resize [] all = refl
rows-styled resize (row ∷ rows) all =
    ap (λ (cells : List (List Styled)). cells ∷ styled_texts (map (by_column (λ j. resized_text (resize j)) 0) rows)) (by_column-styled resize 0 row all.0)
    ∙ ap (λ (rest : List (List (List Styled))). by_column (λ j. resized character_of in_plain (resize j)) 0 (map styled_of row) ∷ rest) (rows-styled resize rows all.1)

-- ---- sizes follow from what the texts show

-- what styled texts show are the stripped texts
pub texts-in : (texts : List (List (List ℕ))) → AreWholeTexts texts → texts_in character_of in_plain (styled_texts texts) ≡ stripped_texts texts
texts-in texts all =
    map-map (map (λ (cell : List Styled). encode_utf8_all (map character_of cell))) (map styled_of) texts
    ∙ map-same (AllByRecursion IsWholeText) (λ row. map (λ cell. encode_utf8_all (map character_of cell)) (map styled_of row)) (map stripped)
    (λ row whole. map-map (λ (cell : List Styled). encode_utf8_all (map character_of cell)) styled_of row
    ∙ map-same IsWholeText (λ text. encode_utf8_all (map character_of (styled_of text))) stripped
    (λ text is. ap encode_utf8_all (characters-styled text is.utf8) ∙ encodes-chars (strip (pieces text)) (IsUtf8-shown_text text is.utf8)) row whole)
    texts all

module _ (style : Compact) (asked : WidthLimit) (texts : List (List (List ℕ))) where
  pub narrowed-stripped : narrowed style asked (stripped_texts texts) ≡ narrowed style asked texts
  narrowed-stripped =
      ap (λ (widths : List ℕ). narrow style asked widths (table_width (frame_under style (stripped_texts texts))) asked.width) (widths-stripped style texts)
      ∙ ap (λ (frame : Frame). narrow style asked (widths_of style texts) (table_width frame) asked.width) (frame-stripped style texts)

  pub asked_widths-stripped : asked_widths style asked (stripped_texts texts) ≡ asked_widths style asked texts
  unfolding asked_widths
  asked_widths-stripped =
      ap (λ (widths : List ℕ). widths_or style asked widths (narrowed style asked (stripped_texts texts))) (widths-stripped style texts)
      ∙ ap (widths_or style asked (widths_of style texts)) narrowed-stripped

  module _ (all : AreWholeTexts texts) where
    pub kept-whole : AreWholeTexts (resized_rows style asked texts)
    unfolding resized_rows
    kept-whole = rows-whole (resize_in style asked (narrowed style asked texts)) texts all

    -- the bridge: what the texts show that the table keeps are the cells of the picture
    pub kept-styled : styled_texts (resized_rows style asked texts) ≡ resized_cells character_of in_plain style asked (styled_texts texts)
    unfolding resized_rows resized_cells
    kept-styled =
        rows-styled (resize_in style asked (narrowed style asked texts)) texts all
        ∙ ap (λ (widths : Option (List ℕ)). map (by_column (λ j. resized character_of in_plain (resize_in style asked widths j)) 0) (styled_texts texts))
        (sym (ap (narrowed style asked) (texts-in texts all) ∙ narrowed-stripped))

    pub heights-kept : heights_of style (texts_in character_of in_plain (resized_cells character_of in_plain style asked (styled_texts texts))) ≡ heights_of style (resized_rows style asked texts)
    heights-kept =
        ap (λ (cells : List (List (List Styled))). heights_of style (texts_in character_of in_plain cells)) (sym kept-styled)
        ∙ ap (heights_of style) (texts-in (resized_rows style asked texts) kept-whole)
        ∙ heights-stripped style (resized_rows style asked texts)

    abbrev drawn : List ℕ → List ℕ → List (List (List Styled)) → List Styled
    drawn widths heights cells = ended (in_plain line_feed) (frame_of (compact_look style) widths heights) (styled_picture (compact_look style) cells widths heights)

    pub picture-kept : asked_picture style asked (styled_texts texts) ≡ drawn (asked_widths style asked texts) (heights_of style (resized_rows style asked texts)) (styled_texts (resized_rows style asked texts))
    unfolding asked_items
    picture-kept =
        let cells = resized_cells character_of in_plain style asked (styled_texts texts) in
        let heights = heights_of style (texts_in character_of in_plain cells) in
        ap (λ (widths : List ℕ). drawn widths heights cells) (ap (asked_widths style asked) (texts-in texts all) ∙ asked_widths-stripped)
        ∙ ap (λ (found : List ℕ). drawn (asked_widths style asked texts) found cells) heights-kept
        ∙ ap (drawn (asked_widths style asked texts) (heights_of style (resized_rows style asked texts))) (sym kept-styled)

-- ---- the text

-- a line feed more
pub shown-ended : (frame : Frame) (bytes : List ℕ) (characters : List Styled) → ShowsHere bytes characters → ShowsHere (ended line_feed frame bytes) (ended (in_plain line_feed) frame characters)
shown-ended frame bytes characters shows = step (line_count frame == 0) where
  step : (b : Bool) → ShowsHere (if b then [] else bytes ++ line_feed ∷ []) (if b then [] else characters ++ in_plain line_feed ∷ [])
  step true = ShowsHere-nothing
  step false = ShowsHere-append bytes (line_feed ∷ []) characters (in_plain line_feed ∷ []) shows (subst (λ bytes. ShowsHere bytes (in_plain line_feed ∷ [])) (encode_ascii line_feed (lit< tt)) (ShowsHere-character line_feed BeginsNoSequence-feed))

pub text-shows_picture : (style : Compact) (asked : WidthLimit) (texts : List (List (List ℕ))) → IsBare (compact_look style) → AreWholeTexts texts
    → ShowsHere (asked_text style asked texts) (asked_picture style asked (styled_texts texts))
unfolding asked_text
text-shows_picture style asked texts bare all =
    let kept = resized_rows style asked texts in
    let widths = asked_widths style asked texts in
    let heights = heights_of style kept in
    subst (ShowsHere (asked_text style asked texts)) (sym (picture-kept style asked texts all))
    (shown-ended (asked_frame style asked texts) _ _ (text-shown (compact_look style) kept widths heights bare (kept-whole style asked texts all) (λ _. refl)))

pub text-shows : (style : Compact) (asked : WidthLimit) (texts : List (List (List ℕ))) → IsBare (compact_look style) → AreWholeTexts texts
    → Shows (asked_text style asked texts) (asked_picture style asked (styled_texts texts))
text-shows style asked texts bare all =
    let bytes = asked_text style asked texts in
    let shows = text-shows_picture style asked texts bare all in
    record {
      text = shows.utf8;
      shown = λ ps of_bytes. ap styled (sym (pieces-ArePiecesOf bytes ps of_bytes)) ∙ shows.shown;
      closed = λ ps of_bytes. subst IsClosed (pieces-ArePiecesOf bytes ps of_bytes) shows.closed;
    }

-- ---- line feeds

abbrev FeedIsPlain : Styled → Type 0
FeedIsPlain x = x.0 ≡ line_feed → x.1 ≡ plain_attributes

pub picture-feeds : (style : Compact) (asked : WidthLimit) (rows : List (List (List Styled))) → All FeedIsPlain (asked_picture style asked rows)
unfolding asked_items
picture-feeds style asked rows =
    let cells = resized_cells character_of in_plain style asked rows in
    let widths = asked_widths style asked (texts_in character_of in_plain rows) in
    let heights = heights_of style (texts_in character_of in_plain cells) in
    step (line_count (frame_of (compact_look style) widths heights) == 0) (styled_picture (compact_look style) cells widths heights) (feeds-plain (compact_look style) cells widths heights)
  where
    step : (b : Bool) (items : List Styled) → All FeedIsPlain items → All FeedIsPlain (if b then [] else items ++ in_plain line_feed ∷ [])
    step true items all = All-nil FeedIsPlain
    step false items all = All-push FeedIsPlain items (in_plain line_feed) all (λ same. refl)
