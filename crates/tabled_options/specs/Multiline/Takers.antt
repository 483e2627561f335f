-- Who takes what is left over, as options of a table see it.
use Rattle.std.specs.Prelude.{ℕ, [], ◌∷◌, Some}
use Rattle.tabled_size.specs.declared.dimension.priority.DimensionPriority.{DimensionPriority}
use Rattle.tabled_size.specs.declared.dimension.priority.DimensionPriority.TheVariants.{First, Last, List as Each}
use Rattle.tabled_size.specs.Dimension.Stored.{Stored}
use Rattle.tabled_size.specs.Dimension.Takers.{Takers}

-- a number for each: all to the first, all to the last, as much to each
abbrev pub taker_number : DimensionPriority → ℕ
taker_number First = 0
taker_number Last = 1
taker_number Each = 2

-- options see what a table keeps as two lists of numbers: here one number of who takes columns, and
-- one of who takes lines
abbrev pub takers_for_options : Takers → Stored
takers_for_options takers = record { widths = Some (taker_number takers.width ∷ []); heights = Some (taker_number takers.height ∷ []) }
