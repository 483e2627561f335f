-- How high the rows of a table are, and how high the table is with them.
use Rattle.std.specs.Prelude.{ℕ, ◌*◌, ◌/◌, List, Result, Ok, length, map}
use Rattle.std.specs.List.{range_with_len}
use Rattle.grid_config_values.specs.Glyphs.{boundary_count, has_row_boundary}
use Rattle.grid_config_values.specs.declared.fault.Fault.{Fault}
use Rattle.grid_config.specs.Looks.{Look}
use Rattle.grid_records_estimate.specs.Estimates.{greatest, smallest}
use Rattle.grid_records_estimate.specs.Sizing.{position_at}
use Rattle.grid_records_estimate.specs.Totals.{total}
use Rattle.grid_records_measure.specs.TextLines.{text_height}
use Rattle.grid_records_traits.specs.Rows.{text_at}
use Rattle.tabled_steps.specs.Outcomes.{◌≫=◌, sized}
use Rattle.tabled_steps.specs.Sizes.{natural_heights}

-- ---- the whole table

-- how many lines a table with rows of these heights has: with its boundaries and its margins
abbrev pub lines_with_heights : Look → List ℕ → ℕ
lines_with_heights look heights = total heights (boundary_count (has_row_boundary look.borders) (length heights)) look.margin.top.size look.margin.bottom.size

-- heights of rows, and how many lines the table has with them
pub record HeightEstimate : Type 0 where
  pub heights : List ℕ
  pub lines : ℕ

abbrev pub estimate_with : List ℕ → ℕ → HeightEstimate
estimate_with heights lines = record { heights = heights; lines = lines }

-- the lines that there are with these heights
abbrev pub counted : Look → List ℕ → Result HeightEstimate Fault
counted look heights = sized (lines_with_heights look heights) ≫= λ lines. Ok (estimate_with heights lines)

-- the least heights that hold the texts of a table of `columns` columns, whatever heights it keeps
abbrev pub estimated : Look → ℕ → List (List (List ℕ)) → Result HeightEstimate Fault
estimated look columns rows = counted look (natural_heights look columns rows)

-- this percentage of the lines that it has, rounded down
abbrev pub hundredths : ℕ → ℕ → Result ℕ Fault
hundredths percent lines = sized (lines * percent) ≫= λ product. Ok (product / 100)

abbrev pub percent_of_height : ℕ → ℕ → List (List (List ℕ)) → Look → Result ℕ Fault
percent_of_height percent columns rows look = estimated look columns rows ≫= λ estimate. hundredths percent estimate.lines

-- ---- its texts

-- the greatest count of lines of a cell of a row
abbrev pub row_lines : ℕ → List (List (List ℕ)) → ℕ → ℕ
row_lines columns rows row = greatest (map (λ column. text_height (text_at rows (position_at row column))) (range_with_len 0 columns))

-- the greatest of a cell
abbrev pub most_lines : ℕ → List (List (List ℕ)) → ℕ
most_lines columns rows = greatest (map (row_lines columns rows) (range_with_len 0 (length rows)))

-- the smallest over the rows of a row's greatest
abbrev pub fewest_lines : ℕ → List (List (List ℕ)) → ℕ
fewest_lines columns rows = smallest (map (row_lines columns rows) (range_with_len 0 (length rows)))
