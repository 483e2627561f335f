-- The pieces of each line of a table are side by side.
use Rattle.std.proofs.Common.{◌≡◌, ◌&&◌, ℕ, ◌+◌, ◌<◌, ◌≤◌, nat_lt, true, false, List, [], None, length, refl, ap, sym, subst, ◌∙◌, arith}
use Rattle.std.proofs.Math.Path.{fun_ext}
use Rattle.std.proofs.lemmas.Bool.Decides.{nat_tests}
use Rattle.ansi_scan.specs.Pieces.{pieces}
use Rattle.columns_asked.specs.DrawnTables.{asked_widths, heights_of, resized_rows, too_wide}
use Rattle.columns_table.proofs.Natural.{positive-none}
use Rattle.grid_config.specs.Compact.{Compact}
use Rattle.grid_config.specs.Looks.{compact_look}
use Rattle.grid_config_values.proofs.SpansLemmas.Order.{same_itself}
use Rattle.grid_config_values.proofs.SpansLemmas.Owners.{owner_holds}
use Rattle.grid_config_values.proofs.SpansLemmas.Parting.{good_without}
use Rattle.grid_config_values.specs.Spans.Owners.{owner}
use Rattle.grid_config_values.specs.Spans.Spans.{extent_at, single}
use Rattle.grid_config_values.specs.declared.spans.extent.Extent.{Extent}
use Rattle.grid_config_values.specs.Order.{same_place}
use Rattle.grid_config_values.specs.declared.position.Position.{Position}
use Rattle.grid_records_measure.specs.TextLines.{shown_lines, text_width}
use Rattle.grid_records_estimate.specs.Rows.{text_at}
use Rattle.columns_table.proofs.Fits.{among-take, none-passes}
use Rattle.papergrid_picture.proofs.Tiling.{Tiles-picture, rectangle-shown}
use Rattle.papergrid_picture.specs.Blocks.{Grid, greatest}
use Rattle.papergrid_picture.specs.CellLines.{cell_measures}
use Rattle.papergrid_picture.specs.Fitting.{first_too_wide, is_too_wide, need}
use Rattle.papergrid_picture.specs.Frame.{Frame, block_width, column_count, frame_of, full_line_width, row_count}
use Rattle.papergrid_picture.specs.Picture.{at, picture_line, seen}
use Rattle.papergrid_picture.specs.Tables.{table_grid}
use Rattle.papergrid_picture.specs.Tiling.{HasGoodSpans, HasRoom, IsLineOf, ShowsBlock, Tiles}
use Rattle.columns_run.specs.DrawnTables.{grid_of, resized_texts}
use Rattle.columns_run.specs.Rows.{cell_parts}
use Rattle.columns_run.specs.Run.{HasTable}
use Rattle.columns_run.specs.Wanted.{Wanted}
use Rattle.columns_run.proofs.Cells.{whole_text}
use Rattle.columns_run.proofs.Tables.{wide-same}

-- ---- measures

-- no line of a cell measures more than the widest
within-widest : (text : List ℕ) → greatest (cell_measures false false text) ≤ text_width text
unfolding text_width
within-widest text = let lines = shown_lines (pieces text) in among-take (length lines) lines

-- ---- single cells

no_spans : (p : Position) → single ≡ extent_at [] p
unfolding extent_at
no_spans p = refl

single-extent : (p : Position) → (extent_at [] p).rows ≡ 1 × ((extent_at [] p).columns ≡ 1)
unfolding extent_at
single-extent p = (refl, refl)

module _ (style : Compact) (texts : List (List (List ℕ))) (widths heights : List ℕ) where
  abbrev grid : Grid
  grid = table_grid (compact_look style) texts (λ _. None) widths heights

  abbrev frame : Frame
  frame = frame_of (compact_look style) widths heights

  extents : (compact_look style).extent ≡ extent_at []
  extents = fun_ext no_spans

  good : HasGoodSpans grid []
  good = record { extents = extents; positive = positive-none; good = good_without (row_count frame) (column_count frame) }

  itself : (i j : ℕ) → owner (extent_at []) (at i j) ≡ at i j
  itself i j =
      let held = owner_holds [] (at i j) positive-none in
      let one = single-extent (owner (extent_at []) (at i j)) in
      let row : (owner (extent_at []) (at i j)).row ≡ i = omega (arith, held.below, held.above, one.0) in
      let column : (owner (extent_at []) (at i j)).col ≡ j = omega (arith, held.right, held.left, one.1) in
      λ k. record { row = row k; col = column k }

  -- each cell is seen at its own place
  pub seen-itself : (i j : ℕ) → seen grid i j ≡ at i j
  seen-itself i j = ap (λ (extent : Position → Extent). owner extent (at i j)) extents ∙ itself i j

  module _ (none : first_too_wide (frame_of (compact_look style) widths heights) texts ≡ None) where
    enough : (i j : ℕ) → i < row_count frame → j < column_count frame →
        greatest (grid.measures (at i j)) + style.padding.left.size + style.padding.right.size ≤ block_width frame (at i j)
    enough i j row column =
        let cell = at i j in
        let look = compact_look style in
        let test : is_too_wide frame texts cell ≡ false = none-passes (is_too_wide frame texts) (row_count frame) (column_count frame) i j row column none in
        let own : same_place (owner look.extent cell) cell ≡ true = ap (λ place. same_place place cell) (seen-itself i j) ∙ same_itself cell in
        let narrow : nat_lt (block_width frame cell) (need look texts cell) ≡ false = ap (λ b. b && nat_lt (block_width frame cell) (need look texts cell)) (sym own) ∙ test in
        let needed : need look texts cell ≤ block_width frame cell = grind (arith, nat_tests, narrow) in
        omega (arith, needed, within-widest (text_at texts cell))

    pub room : HasRoom grid
    room = record {
      room = λ i j row column.
          subst (λ (cell : Position). greatest (grid.measures cell) + style.padding.left.size + style.padding.right.size ≤ block_width frame cell) (sym (seen-itself i j)) (enough i j row column);
    }

    pub lines-tiled : (y : ℕ) → Tiles 0 (picture_line grid y) (full_line_width frame)
    lines-tiled y = Tiles-picture grid [] good room refl y

    pub block-shown : (i j y : ℕ) → i < row_count frame → j < column_count frame → IsLineOf grid (at i j) y → ShowsBlock grid (at i j) y
    block-shown i j y row column inside =
        subst (λ (cell : Position). ShowsBlock grid cell y) (seen-itself i j)
        (rectangle-shown grid [] good room refl i j y row column (subst (λ (cell : Position). IsLineOf grid cell y) (sym (seen-itself i j)) inside))

-- ---- the table of a text

module _ (wanted : Wanted) (input : List ℕ) where
  none-wide : HasTable wanted input → too_wide wanted.style wanted.limit (cell_parts input) ≡ None
  none-wide has = wide-same wanted input (whole_text input has.0 has.1) ∙ has.3

  pub tiled : (y : ℕ) → HasTable wanted input → Tiles 0 (picture_line (grid_of wanted input) y) (full_line_width (grid_of wanted input).frame)
  unfolding grid_of resized_texts too_wide
  tiled y has =
      let style = wanted.style in
      let asked = wanted.limit in
      let texts = cell_parts input in
      let kept = resized_rows style asked texts in
      lines-tiled style kept (asked_widths style asked texts) (heights_of style kept) (none-wide has) y

  pub shows-block : (i j y : ℕ) → HasTable wanted input → i < row_count (grid_of wanted input).frame → j < column_count (grid_of wanted input).frame
      → IsLineOf (grid_of wanted input) (at i j) y → ShowsBlock (grid_of wanted input) (at i j) y
  unfolding grid_of resized_texts too_wide
  shows-block i j y has row column inside =
      let style = wanted.style in
      let asked = wanted.limit in
      let texts = cell_parts input in
      let kept = resized_rows style asked texts in
      block-shown style kept (asked_widths style asked texts) (heights_of style kept) (none-wide has) i j y row column inside
