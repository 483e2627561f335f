-- Heads of records by their day.
use Rattle.std.specs.Prelude.{ℕ, List, ◌++◌, codes, decimal}

-- `day 0` for the first record, `day 1` for the next, and so on
abbrev pub day_of : ℕ → List ℕ
day_of day = codes "day " ++ decimal day
