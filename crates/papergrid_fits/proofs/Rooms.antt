-- In a table that fits its sizes, each cell that is seen fits the width of its rectangle.
use Rattle.std.proofs.Common.{◌≡◌, ◌&&◌, cond, ℕ, zero, suc, ◌+◌, ◌-◌, ◌<◌, ◌≤◌, nat_lt, Bool, true, false, List, [], ◌∷◌, ◌++◌, Option, None, Some, length, map, take, drop, refl, ap, sym, subst, ◌∙◌, arith}
use Rattle.std.specs.List.{find, flat_map, range_with_len}
use Rattle.std.specs.Option.{option_or}
use Rattle.std.proofs.lemmas.Bool.Decides.{nat_tests}
use Rattle.std.proofs.lemmas.List.{map-append}
use Rattle.std.proofs.lemmas.List.Concat.{flat_map-append}
use Rattle.std.proofs.lemmas.List.Folds.{find-append}
use Rattle.std.proofs.lemmas.List.FromFn.{length-map-range_with_len}
use Rattle.ansi_scan.specs.Pieces.{pieces}
use Rattle.grid_config_values.specs.declared.position.Position.{Position}
use Rattle.grid_config_values.specs.Entities.{table_positions}
use Rattle.grid_config_values.specs.Order.{same_place}
use Rattle.grid_config_values.specs.Spans.Owners.{owner}
use Rattle.grid_config_values.specs.Spans.Spans.{AreGood, ArePositive, extent_at}
use Rattle.grid_config_values.proofs.SpansLemmas.Order.{same_itself}
use Rattle.grid_config_values.proofs.SpansLemmas.Owners.{owner_goes_on, owner_holds, owner_in_table}
use Rattle.grid_config.specs.Colors.{Color}
use Rattle.grid_config.specs.Looks.{look_of}
use Rattle.grid_config.specs.Settings.{Settings}
use Rattle.grid_records_traits.specs.TextLines.{line_measure, shown_lines, text_width, widest}
use Rattle.grid_records_traits.specs.Rows.{text_at}
use Rattle.papergrid_picture.specs.Blocks.{Grid, greatest}
use Rattle.papergrid_picture.specs.CellLines.{cell_measures, kept_lines}
use Rattle.papergrid_picture.specs.Fitting.{is_too_wide, need}
use Rattle.papergrid_picture.specs.Frame.{block_width, column_count, row_count}
use Rattle.papergrid_picture.specs.Picture.{at, seen}
use Rattle.papergrid_picture.specs.Shown.{KeepsLineEnds}
use Rattle.papergrid_picture.specs.Tables.{sizes_of, table_grid}
use Rattle.papergrid_picture.specs.Tiling.{HasGoodSpans, HasRoom}
use Rattle.papergrid_picture.proofs.Widths.{widest-drop}
use Rattle.papergrid_fits.specs.Tables.{CanBeDrawn}
use Rattle.papergrid_fits.proofs.First.{range-at}

-- ---- none is found: each fails the test

neither : {X : Type 0} (first second : Option X) → option_or first second ≡ None → (first ≡ None) × (second ≡ None)
neither None second none = (refl, none)
neither (Some x) second none = absurd (cc none)

none-both : {X : Type 0} (test : X → Bool) (xs ys : List X) → find test (xs ++ ys) ≡ None → (find test xs ≡ None) × (find test ys ≡ None)
none-both test xs ys none = neither (find test xs) (find test ys) (sym (find-append test xs ys) ∙ none)

none-here : {X : Type 0} (test : X → Bool) (x : X) (xs : List X) → find test (x ∷ xs) ≡ None → test x ≡ false
none-here {X} test x xs none = elim (test x) as (λ b. cond b (Some x) (find test xs) ≡ None → b ≡ false) [
  | true ↦ λ found. absurd (cc found)
  | false ↦ λ _. refl
] none

pub none-passes : (test : Position → Bool) (rows columns i j : ℕ) → i < rows → j < columns → find test (table_positions rows columns) ≡ None → test (at i j) ≡ false
none-passes test rows columns i j row column none =
    let in_row = λ (k : ℕ). map (at k) (range_with_len 0 columns) in
    let parted = ap (flat_map in_row) (range-at i rows row) ∙ flat_map-append in_row (range_with_len 0 i) (i ∷ range_with_len (i + 1) (rows - (i + 1))) in
    let behind = (none-both test (flat_map in_row (range_with_len 0 i)) (in_row i ++ flat_map in_row (range_with_len (i + 1) (rows - (i + 1)))) (ap (find test) (sym parted) ∙ none)).1 in
    let here = (none-both test (in_row i) (flat_map in_row (range_with_len (i + 1) (rows - (i + 1)))) behind).0 in
    let row_parted = ap (map (at i)) (range-at j columns column) ∙ map-append (at i) (range_with_len 0 j) (j ∷ range_with_len (j + 1) (columns - (j + 1))) in
    let last = (none-both test (map (at i) (range_with_len 0 j)) (at i j ∷ map (at i) (range_with_len (j + 1) (columns - (j + 1)))) (ap (find test) (sym row_parted) ∙ here)).1 in
    none-here test (at i j) (map (at i) (range_with_len (j + 1) (columns - (j + 1)))) last

-- ---- measures

pub among-take : (n : ℕ) (lines : List (List ℕ)) → greatest (map line_measure (take n lines)) ≤ widest lines
among-take zero lines = omega arith
among-take (suc n) [] = omega arith
among-take (suc n) (line ∷ lines) = omega (arith, among-take n lines)

-- the lines that are kept measure no more than the widest of all
kept-within : (trim_vertical : Bool) (text : List ℕ) → greatest (cell_measures false trim_vertical text) ≤ text_width text
unfolding text_width
kept-within trim_vertical text =
    let lines = shown_lines (pieces text) in
    let kept = kept_lines trim_vertical lines in
    omega (arith, among-take kept.1 (drop kept.0 lines), widest-drop kept.0 lines)

-- ---- the table

module _ (settings : Settings) (width height : ℕ → ℕ) (columns : ℕ) (rows : List (List (List ℕ))) (colors : Position → Option Color)
    (positive : ArePositive settings.spans) (fits : CanBeDrawn settings width height columns rows) where
  abbrev grid : Grid
  grid = table_grid (look_of settings) rows colors (sizes_of width columns) (sizes_of height (length rows))

  row_count-is : row_count grid.frame ≡ length rows
  row_count-is = length-map-range_with_len height 0 (length rows)

  column_count-is : column_count grid.frame ≡ columns
  column_count-is = length-map-range_with_len width 0 columns

  pub good-spans : HasGoodSpans grid settings.spans
  good-spans = record {
    extents = refl;
    positive = positive;
    good = subst (λ n. AreGood settings.spans n (column_count grid.frame)) (sym row_count-is) (subst (λ n. AreGood settings.spans (length rows) n) (sym column_count-is) fits.good);
  }

  room-for : KeepsLineEnds (look_of settings) → (i j : ℕ) → i < row_count grid.frame → j < column_count grid.frame →
      let cell = seen grid i j in
      let padding = grid.frame.look.padding cell in
      greatest (grid.measures cell) + padding.left.size + padding.right.size ≤ block_width grid.frame cell
  room-for keeps i j row column =
      let cell = seen grid i j in
      let in_table = owner_in_table settings.spans (length rows) columns (at i j) (omega (arith, row, row_count-is), omega (arith, column, column_count-is)) in
      let held = owner_holds settings.spans (at i j) positive in
      let itself : owner (extent_at settings.spans) cell ≡ cell =
      owner_goes_on settings.spans (length rows) columns (at i j) cell positive fits.good (omega (arith, row, row_count-is), omega (arith, column, column_count-is)) in_table
      (record { below = omega arith; above = omega (arith, held.below, held.above); right = omega arith; left = omega (arith, held.right, held.left) }) in
      let own : same_place (owner (extent_at settings.spans) cell) cell ≡ true = ap (λ place. same_place place cell) itself ∙ same_itself cell in
      let none : find (is_too_wide grid.frame rows) (table_positions (length rows) columns) ≡ None =
      ap (λ n. find (is_too_wide grid.frame rows) (table_positions n columns)) (sym row_count-is)
      ∙ ap (λ n. find (is_too_wide grid.frame rows) (table_positions (row_count grid.frame) n)) (sym column_count-is) ∙ fits.room in
      let test : is_too_wide grid.frame rows cell ≡ false = none-passes (is_too_wide grid.frame rows) (length rows) columns cell.row cell.col in_table.0 in_table.1 none in
      let narrow : nat_lt (block_width grid.frame cell) (need (look_of settings) rows cell) ≡ false =
      ap (λ b. b && nat_lt (block_width grid.frame cell) (need (look_of settings) rows cell)) (sym own) ∙ test in
      let enough : need (look_of settings) rows cell ≤ block_width grid.frame cell = grind (arith, nat_tests, narrow) in
      let measured : greatest (grid.measures cell) ≤ text_width (text_at rows cell) =
      subst (λ b. greatest (cell_measures b ((look_of settings).trim_vertical cell) (text_at rows cell)) ≤ text_width (text_at rows cell)) (sym (keeps cell))
      (kept-within ((look_of settings).trim_vertical cell) (text_at rows cell)) in
      omega (arith, enough, measured)

  pub has-room : KeepsLineEnds (look_of settings) → HasRoom grid
  has-room keeps = record { room = room-for keeps }
