-- In a table of plain characters that fits its sizes, each cell that is seen fits, trimmed or not.
use Rattle.std.proofs.Common.{◌≡◌, ◌&&◌, cond, ℕ, ◌+◌, ◌<◌, ◌≤◌, nat_lt, Bool, true, false, List, [], ◌∷◌, Option, None, drop, get_or, length, map, ap, sym, subst, ◌∙◌, arith}
use Rattle.std.specs.Prelude.{IsUtf8, chars}
use Rattle.std.specs.List.{AllByRecursion, find, list_all, sum_by}
use Rattle.std.specs.Str.{drop_trailing_whitespace, skip_leading_whitespace, trim}
use Rattle.std.proofs.lemmas.Bool.Decides.{nat_tests}
use Rattle.std.proofs.lemmas.List.FromFn.{length-map-range_with_len}
use Rattle.std.proofs.lemmas.Str.{IsUtf8-nil, chars-nil}
use Rattle.ansi_scan.specs.Pieces.{pieces}
use Rattle.ansi_scan.specs.Sequences.{NoneBroken}
use Rattle.ansi_str.specs.StyledText.{strip}
use Rattle.ansi_str_search.proofs.TextLemmas.Utf8Pieces.{IsUtf8-shown_text}
use Rattle.grid_config_values.specs.declared.position.Position.{Position}
use Rattle.grid_config_values.specs.Entities.{table_positions}
use Rattle.grid_config_values.specs.Order.{same_place}
use Rattle.grid_config_values.specs.Spans.Owners.{owner}
use Rattle.grid_config_values.specs.Spans.Spans.{ArePositive, extent_at}
use Rattle.grid_config_values.proofs.SpansLemmas.Order.{same_itself}
use Rattle.grid_config_values.proofs.SpansLemmas.Owners.{owner_goes_on, owner_holds, owner_in_table}
use Rattle.grid_config.specs.Colors.{Color}
use Rattle.grid_config.specs.Looks.{look_of}
use Rattle.grid_config.specs.Settings.{Settings}
use Rattle.grid_records_measure.specs.Measures.{measure, own_width}
use Rattle.grid_records_measure.specs.PlainCharacters.{is_plain_character}
use Rattle.grid_records_measure.specs.TextLines.{line_measure, shown_lines, text_lines, text_width, widest}
use Rattle.grid_records_measure.proofs.Plain.{measure-plain}
use Rattle.grid_records_measure.proofs.TextLines.{text_lines-shown}
use Rattle.grid_records_traits.specs.Rows.{text_at}
use Rattle.papergrid_picture.specs.Blocks.{Grid, greatest}
use Rattle.papergrid_picture.specs.CellLines.{cell_measures, kept_lines, those}
use Rattle.papergrid_picture.specs.Fitting.{is_too_wide, need}
use Rattle.papergrid_picture.specs.Frame.{block_width, column_count, row_count}
use Rattle.papergrid_picture.specs.Picture.{at, seen}
use Rattle.papergrid_picture.specs.Shown.{ArePlainlyShown, IsPlainlyShown}
use Rattle.papergrid_picture.specs.Tables.{sizes_of, table_grid}
use Rattle.papergrid_picture.specs.Tiling.{HasRoom}
use Rattle.papergrid_picture.proofs.Related.{All-get_or}
use Rattle.papergrid_picture.proofs.Shown.{All-drop, All-take, IsClosedPart, lines-closed_parts, pieces-nothing}
use Rattle.papergrid_picture.proofs.Widths.{ArePlain, chars-trim, drop-less, drop-plain, is_plain_or_feed, plain-parts, skip-less, skip-plain, widest-drop, widest-take}
use Rattle.papergrid_fits.specs.Tables.{CanBeDrawn}
use Rattle.papergrid_fits.proofs.Rooms.{none-passes}

-- ---- a line of plain characters measures no more once it is trimmed

abbrev TrimsToLess : List ℕ → Type 0
TrimsToLess line = line_measure (trim line) ≤ line_measure line

module _ (line : List ℕ) (utf8 : IsUtf8 line) where
  abbrev front : List ℕ
  front = skip_leading_whitespace (chars line)

  abbrev left_of : List ℕ
  left_of = drop_trailing_whitespace front

  trims-to_less : ArePlain (chars line) → TrimsToLess line
  trims-to_less plain =
      let front-plain = skip-plain is_plain_character (chars line) plain in
      let trimmed : line_measure (trim line) ≡ sum_by own_width left_of = ap measure (chars-trim line utf8) ∙ measure-plain left_of (drop-plain is_plain_character front front-plain) in
      let whole : line_measure line ≡ sum_by own_width (chars line) = measure-plain (chars line) plain in
      omega (arith, trimmed, whole, drop-less own_width front, skip-less own_width (chars line))

-- ---- the lines of a text

abbrev stripped : List ℕ → List ℕ
stripped part = strip (pieces part)

module _ (text : List ℕ) (is : IsPlainlyShown text) where
  each-part : (parts : List (List ℕ)) → AllByRecursion IsClosedPart parts → AllByRecursion (λ part. ArePlain (chars (stripped part))) parts → AllByRecursion TrimsToLess (map stripped parts)
  each-part [] closed plain = tt
  each-part (part ∷ parts) closed plain = (trims-to_less (stripped part) (IsUtf8-shown_text part closed.0.utf8) plain.0, each-part parts closed.1 plain.1)

  each-line : AllByRecursion TrimsToLess (shown_lines (pieces text))
  each-line =
      subst (λ (lines : List (List ℕ)). AllByRecursion TrimsToLess lines) (text_lines-shown text is.whole.whole)
      (each-part (text_lines text) (lines-closed_parts text is.whole) (plain-parts text is))

-- ---- what the lines of a cell measure

among : (f : List ℕ → ℕ) (lines : List (List ℕ)) → AllByRecursion (λ line. f line ≤ line_measure line) lines → greatest (map f lines) ≤ widest lines
among f [] all = omega arith
among f (line ∷ lines) all = let here : f line ≤ line_measure line = all.0 in omega (arith, here, among f lines all.1)

abbrev measure_of : Bool → List ℕ → ℕ
measure_of trim_horizontal line = line_measure (cond trim_horizontal (trim line) line)

trimmed_or_not : (trim_horizontal : Bool) (lines : List (List ℕ)) → AllByRecursion TrimsToLess lines → AllByRecursion (λ line. measure_of trim_horizontal line ≤ line_measure line) lines
trimmed_or_not true lines all = all
trimmed_or_not false [] all = tt
trimmed_or_not false (line ∷ lines) all = (omega arith, trimmed_or_not false lines all.1)

-- the lines that are kept measure no more than the widest of all
within : (text : List ℕ) (trim_horizontal trim_vertical : Bool) → IsPlainlyShown text → greatest (cell_measures trim_horizontal trim_vertical text) ≤ text_width text
unfolding text_width
within text trim_horizontal trim_vertical is =
    let lines = shown_lines (pieces text) in
    let kept = kept_lines trim_vertical lines in
    let f = measure_of trim_horizontal in
    let all = trimmed_or_not trim_horizontal lines (each-line text is) in
    let less = λ (line : List ℕ). f line ≤ line_measure line in
    omega (
      arith,
      among f (those kept lines) (All-take less kept.1 (drop kept.0 lines) (All-drop less kept.0 lines all)),
      widest-take kept.1 (drop kept.0 lines),
      widest-drop kept.0 lines,
    )

-- ---- the table

module _ (settings : Settings) (width height : ℕ → ℕ) (columns : ℕ) (rows : List (List (List ℕ))) (colors : Position → Option Color)
    (positive : ArePositive settings.spans) (fits : CanBeDrawn settings width height columns rows) (texts : ArePlainlyShown rows) where
  abbrev grid : Grid
  grid = table_grid (look_of settings) rows colors (sizes_of width columns) (sizes_of height (length rows))

  rows-are : row_count grid.frame ≡ length rows
  rows-are = length-map-range_with_len height 0 (length rows)

  columns-are : column_count grid.frame ≡ columns
  columns-are = length-map-range_with_len width 0 columns

  shown-at : (cell : Position) → IsPlainlyShown (text_at rows cell)
  shown-at cell =
      All-get_or IsPlainlyShown (get_or rows cell.row []) cell.col [] (All-get_or (AllByRecursion IsPlainlyShown) rows cell.row [] texts tt)
      (record {
        whole = record { utf8 = IsUtf8-nil; whole = subst NoneBroken (sym pieces-nothing) tt };
        plain = ap (λ ps. list_all is_plain_or_feed (chars (strip ps))) pieces-nothing ∙ ap (list_all is_plain_or_feed) chars-nil;
      })

  room-for : (i j : ℕ) → i < row_count grid.frame → j < column_count grid.frame →
      let cell = seen grid i j in
      let padding = grid.frame.look.padding cell in
      greatest (grid.measures cell) + padding.left.size + padding.right.size ≤ block_width grid.frame cell
  room-for i j row column =
      let cell = seen grid i j in
      let look = look_of settings in
      let in_table = owner_in_table settings.spans (length rows) columns (at i j) (omega (arith, row, rows-are), omega (arith, column, columns-are)) in
      let held = owner_holds settings.spans (at i j) positive in
      let itself : owner (extent_at settings.spans) cell ≡ cell =
      owner_goes_on settings.spans (length rows) columns (at i j) cell positive fits.good (omega (arith, row, rows-are), omega (arith, column, columns-are)) in_table
      (record { below = omega arith; above = omega (arith, held.below, held.above); right = omega arith; left = omega (arith, held.right, held.left) }) in
      let own : same_place (owner (extent_at settings.spans) cell) cell ≡ true = ap (λ place. same_place place cell) itself ∙ same_itself cell in
      let none : find (is_too_wide grid.frame rows) (table_positions (length rows) columns) ≡ None =
      ap (λ n. find (is_too_wide grid.frame rows) (table_positions n columns)) (sym rows-are)
      ∙ ap (λ n. find (is_too_wide grid.frame rows) (table_positions (row_count grid.frame) n)) (sym columns-are) ∙ fits.room in
      let test : is_too_wide grid.frame rows cell ≡ false = none-passes (is_too_wide grid.frame rows) (length rows) columns cell.row cell.col in_table.0 in_table.1 none in
      let narrow : nat_lt (block_width grid.frame cell) (need look rows cell) ≡ false =
      ap (λ b. b && nat_lt (block_width grid.frame cell) (need look rows cell)) (sym own) ∙ test in
      let enough : need look rows cell ≤ block_width grid.frame cell = grind (arith, nat_tests, narrow) in
      let measured : greatest (grid.measures cell) ≤ text_width (text_at rows cell) = within (text_at rows cell) (look.trim_horizontal cell) (look.trim_vertical cell) (shown-at cell) in
      omega (arith, enough, measured)

  pub plain-room : HasRoom grid
  plain-room = record { room = room-for }
