-- What sizes by name are of a table.
use Rattle.std.specs.Prelude.{ℕ, Bool, true, false, List, Result, Ok}
use Rattle.grid_config_values.specs.declared.fault.Fault.{Fault}
use Rattle.grid_config.specs.Looks.{Look}
use Rattle.tabled_height.specs.Heights.{fewest_lines, most_lines, percent_of_height}
use Rattle.tabled_width.specs.Measures.{greatest_smallest_width, greatest_width, percent_of_width}
use Rattle.tabled_list.specs.declared.amount.Amount.{Amount}
use Rattle.tabled_list.specs.declared.amount.Amount.TheVariants.{Exact, Max, Min, Percent}

-- what may be refused for want of memory: only a share of what the table takes
abbrev pub allocates : Amount → Bool
allocates (Exact n) = false
allocates Max = false
allocates Min = false
allocates (Percent n) = true

-- as a width, of `columns` columns
abbrev pub width_of : Amount → ℕ → List (List (List ℕ)) → Look → Result ℕ Fault
width_of (Exact n) columns rows look = Ok n
width_of Max columns rows look = Ok (greatest_width columns rows)
width_of Min columns rows look = Ok (greatest_smallest_width columns rows)
width_of (Percent n) columns rows look = percent_of_width n columns rows look

-- as a height
abbrev pub height_of : Amount → ℕ → List (List (List ℕ)) → Look → Result ℕ Fault
height_of (Exact n) columns rows look = Ok n
height_of Max columns rows look = Ok (most_lines columns rows)
height_of Min columns rows look = Ok (fewest_lines columns rows)
height_of (Percent n) columns rows look = percent_of_height n columns rows look
