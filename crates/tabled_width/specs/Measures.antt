-- Widths that are taken from a table.
use Rattle.std.specs.Prelude.{ℕ, ◌*◌, ◌/◌, List, Result, Ok, length, map}
use Rattle.std.specs.List.{range_with_len}
use Rattle.grid_config_values.specs.declared.fault.Fault.{Fault}
use Rattle.grid_config.specs.Looks.{Look}
use Rattle.grid_records_estimate.specs.Estimates.{greatest, smallest}
use Rattle.grid_records_estimate.specs.Sizing.{position_at}
use Rattle.grid_records_measure.specs.TextLines.{text_width}
use Rattle.grid_records_traits.specs.Rows.{text_at}
use Rattle.tabled_steps.specs.Outcomes.{◌≫=◌, all_sized, sized}
use Rattle.tabled_steps.specs.Sizes.{natural_widths}
use Rattle.tabled_width.specs.WholeTables.Widths.{width_with_columns}

module _ (columns : ℕ) (rows : List (List (List ℕ))) where
  -- what the texts of a row measure; one that the row lacks is empty
  abbrev pub row_widths : ℕ → List ℕ
  row_widths row = map (λ column. text_width (text_at rows (position_at row column))) (range_with_len 0 columns)

  -- the greatest measure of a cell
  abbrev pub greatest_width : ℕ
  greatest_width = greatest (map (λ row. greatest (row_widths row)) (range_with_len 0 (length rows)))

  -- the greatest over the rows of a row's smallest
  abbrev pub greatest_smallest_width : ℕ
  greatest_smallest_width = greatest (map (λ row. smallest (row_widths row)) (range_with_len 0 (length rows)))

-- this percentage of what the table takes in the least widths that hold its texts, whatever is kept, rounded down
abbrev pub percent_of_width : ℕ → ℕ → List (List (List ℕ)) → Look → Result ℕ Fault
percent_of_width percent columns rows look =
    all_sized (natural_widths look columns rows) ≫= λ widths. sized (width_with_columns look widths) ≫= λ whole. sized (whole * percent) ≫= λ product. Ok (product / 100)
