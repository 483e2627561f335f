-- When a table fits its sizes.
use Rattle.std.specs.Prelude.{◌≡◌, ℕ, ◌+◌, ◌^◌, ◌<◌, ◌&&◌, ◌==◌, ◌||◌, nat_lt, Bool, List, Option, None, Some, Ok, Err, Result, if◌then◌else◌}
use Rattle.std.specs.List.{find}
use Rattle.grid_config_values.specs.Entities.{table_positions}
use Rattle.grid_config_values.specs.declared.fault.Fault.{Fault}
use Rattle.grid_config_values.specs.declared.fault.Fault.TheVariants.{Memory, Range, Spans, Room}
use Rattle.grid_config_values.specs.declared.position.Position.{Position}
use Rattle.grid_config_values.specs.Order.{same_place}
use Rattle.grid_config_values.specs.Spans.Owners.{owner}
use Rattle.grid_config.specs.Looks.{Look}
use Rattle.grid_records_measure.specs.TextLines.{text_width}
use Rattle.grid_records_traits.specs.Rows.{text_at}
use Rattle.papergrid_picture.specs.Frame.{Frame, block_width, column_count, full_line_width, line_count, row_count}
use Rattle.papergrid_picture.specs.Picture.{at}

-- the columns that the widest line of a cell takes with the paddings at its sides
abbrev pub need : Look → List (List (List ℕ)) → Position → ℕ
need look rows cell = let padding = look.padding cell in text_width (text_at rows cell) + padding.left.size + padding.right.size

module _ (frame : Frame) where
  -- how many columns the table takes: none without rows or columns
  abbrev pub table_width : ℕ
  table_width = if row_count frame == 0 || column_count frame == 0 then 0 else full_line_width frame

  -- both totals are in the range of `usize`
  abbrev pub InRange : Type 0
  InRange = (table_width < 2 ^ 64) × (line_count frame < 2 ^ 64)

module _ (frame : Frame) (rows : List (List (List ℕ))) where
  -- a visible cell needs more than the width of its rectangle
  abbrev pub is_too_wide : Position → Bool
  is_too_wide cell = same_place (owner frame.look.extent cell) cell && nat_lt (block_width frame cell) (need frame.look rows cell)

  -- the first of the cells that need more, by row, then column
  abbrev pub first_too_wide : Option Position
  first_too_wide = find is_too_wide (table_positions (row_count frame) (column_count frame))

  -- spans, range and widths, in this order; of the cells that are too wide the first by row, then column, is named
  abbrev pub FitsAnswer : Type 0 → Result (Unit {0}) Fault → Type 0
  FitsAnswer GoodSpans (Ok _) = GoodSpans × InRange frame × (first_too_wide ≡ None)
  FitsAnswer GoodSpans (Err Spans) = ¬ GoodSpans
  FitsAnswer GoodSpans (Err Range) = GoodSpans × (¬ (InRange frame))
  FitsAnswer GoodSpans (Err (Room row column)) = GoodSpans × InRange frame × (first_too_wide ≡ Some (at row column))
  FitsAnswer GoodSpans (Err Memory) = ⊥
