-- A table that can be printed is wide enough for its cells.
use Rattle.std.proofs.Common.{◌≡◌, ◌==◌, ◌&&◌, ◌||◌, ◌+◌, ◌<◌, ◌≤◌, nat_lt, ℕ, true, false, cond, List, [], None, Ok, length, refl, ap, sym, subst, ◌∙◌, arith}
use Rattle.std.proofs.lemmas.Bool.Decides.{nat_tests}
use Rattle.std.proofs.lemmas.List.FromFn.{length-map-range_with_len}
use Rattle.ansi_scan.proofs.Comparing.{not_zero}
use Rattle.grid_config_values.specs.declared.spans.extent.Extent.{Extent}
use Rattle.grid_config_values.specs.Spans.Owners.{owner}
use Rattle.grid_config_values.specs.Spans.Spans.{AreGood, ArePositive, extent_at}
use Rattle.grid_config_values.proofs.SpansLemmas.Order.{same_itself}
use Rattle.grid_config_values.proofs.SpansLemmas.Owners.{owner_goes_on, owner_holds, owner_in_table}
use Rattle.grid_config_values.specs.Order.{same_place}
use Rattle.grid_config_values.specs.declared.position.Position.{Position}
use Rattle.grid_records_measure.specs.TextLines.{text_width}
use Rattle.grid_records_traits.specs.Rows.{text_at}
use Rattle.papergrid_fits.proofs.Rooms.{none-passes}
use Rattle.papergrid_picture.specs.Blocks.{Grid, greatest}
use Rattle.papergrid_picture.specs.Fitting.{is_too_wide, need}
use Rattle.papergrid_picture.specs.Frame.{Frame, block_width, column_count as columns_of_frame, full_line_width, row_count}
use Rattle.papergrid_picture.specs.Picture.{at, seen}
use Rattle.papergrid_picture.specs.Tables.{table_grid}
use Rattle.papergrid_picture.specs.Tiling.{HasGoodSpans, HasRoom}
use Rattle.tabled.proofs.Fitting.{by_spans}
use Rattle.tabled_size.specs.Dimension.Sizes.{given_size}
use Rattle.tabled_size.specs.Dimension.Stored.{stored_sizes}
use Rattle.tabled_steps.specs.States.{State, column_count}
use Rattle.tabled_list.specs.Stripping.Printing.{IsFitsAnswer, drawn_frame, drawn_heights, drawn_sizes, drawn_widths}
use Rattle.tabled_list.specs.Stripping.Totals.{drawn_width}
use Rattle.papergrid_picture.specs.CellLines.{cell_measures}

module _ (s : State) (spans : List (Position × Extent)) (positive : ArePositive spans) (some_rows : 0 < length s.rows) (some_columns : 0 < column_count s.rows) where
  -- the table with these spans
  abbrev pub with_spans : State
  with_spans = record s { look = record s.look { extent = extent_at spans } }

  abbrev pub frame : Frame
  frame = drawn_frame with_spans

  abbrev pub drawn : Grid
  drawn = table_grid with_spans.look with_spans.rows (λ _. None) (drawn_widths with_spans) (drawn_heights with_spans)

  rows-are : row_count frame ≡ length s.rows
  rows-are = length-map-range_with_len (given_size (stored_sizes (drawn_sizes with_spans).heights)) 0 (length s.rows)

  columns-are : columns_of_frame frame ≡ column_count s.rows
  columns-are = length-map-range_with_len (given_size (stored_sizes (drawn_sizes with_spans).widths)) 0 (column_count s.rows)

  pub whole-width : drawn_width with_spans ≡ full_line_width frame
  whole-width =
      ap (λ n. cond (n == 0 || (columns_of_frame frame == 0)) 0 (full_line_width frame)) rows-are
      ∙ ap (λ n. cond (length s.rows == 0 || (n == 0)) 0 (full_line_width frame)) columns-are
      ∙ ap (λ b. cond (b || (column_count s.rows == 0)) 0 (full_line_width frame)) (not_zero (length s.rows) some_rows)
      ∙ ap (λ b. cond b 0 (full_line_width frame)) (not_zero (column_count s.rows) some_columns)

  module _ (fits : IsFitsAnswer with_spans (Ok tt)) where
    good : AreGood spans (row_count frame) (columns_of_frame frame)
    good =
        subst (λ n. AreGood spans n (columns_of_frame frame)) (sym rows-are)
        (subst (λ n. AreGood spans (length s.rows) n) (sym columns-are) (by_spans spans (length s.rows) (column_count s.rows) fits.0))

    pub good-spans : HasGoodSpans drawn spans
    good-spans = record { extents = refl; positive = positive; good = good }

    -- a cell whose lines measure no more, as they are shown, than its text fits its columns
    module _ (within : (cell : Position) → greatest (cell_measures (s.look.trim_horizontal cell) (s.look.trim_vertical cell) (text_at s.rows cell)) ≤ text_width (text_at s.rows cell)) where
      room-for : (i j : ℕ) → i < row_count frame → j < columns_of_frame frame →
          let cell = seen drawn i j in
          let padding = s.look.padding cell in
          greatest (drawn.measures cell) + padding.left.size + padding.right.size ≤ block_width frame cell
      room-for i j row column =
          let cell = seen drawn i j in
          let n = row_count frame in
          let m = columns_of_frame frame in
          let in_table = owner_in_table spans n m (at i j) (row, column) in
          let held = owner_holds spans (at i j) positive in
          let itself : owner (extent_at spans) cell ≡ cell =
          owner_goes_on spans n m (at i j) cell positive good (row, column) in_table
          (record { below = omega arith; above = omega (arith, held.below, held.above); right = omega arith; left = omega (arith, held.right, held.left) }) in
          let own : same_place (owner (extent_at spans) cell) cell ≡ true = ap (λ place. same_place place cell) itself ∙ same_itself cell in
          let test : is_too_wide frame s.rows cell ≡ false = none-passes (is_too_wide frame s.rows) n m cell.row cell.col in_table.0 in_table.1 fits.2 in
          let narrow : nat_lt (block_width frame cell) (need with_spans.look s.rows cell) ≡ false =
          ap (λ b. b && nat_lt (block_width frame cell) (need with_spans.look s.rows cell)) (sym own) ∙ test in
          let enough : need with_spans.look s.rows cell ≤ block_width frame cell = grind (arith, nat_tests, narrow) in
          let measured : greatest (drawn.measures cell) ≤ text_width (text_at s.rows cell) = within cell in
          omega (arith, enough, measured)

      pub has-room : HasRoom drawn
      has-room = record { room = room-for }
