-- The step of a list of widths.
use Rattle.std.specs.Prelude.{ℕ, List, Some, Ok, if◌then◌else◌, length, nat_le}
use Rattle.tabled_steps.specs.States.{Outcome, State, column_count}

-- a list of widths is kept that has one for each column
abbrev pub with_width_list : List ℕ → State → Outcome
with_width_list widths s = if nat_le (column_count s.rows) (length widths) then Ok (record s { sizes = record s.sizes { widths = Some widths } }) else Ok s
