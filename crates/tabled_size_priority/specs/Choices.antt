-- What the priority of a name makes of widths.
use Rattle.std.specs.Prelude.{ℕ, List, true, false}
use Rattle.tabled_size_priority.specs.declared.choice.Choice.{Choice}
use Rattle.tabled_size_priority.specs.declared.choice.Choice.TheVariants.{None, MinLeft, MinRight, MaxLeft, MaxRight, Left, Right}
use Rattle.tabled_size_priority.specs.Growing.{IsGrownByNarrowest, IsGrownByWidest, IsGrownFromSide, IsGrownInTurns}
use Rattle.tabled_size_priority.specs.Shrinking.{IsShrunkByNarrowest, IsShrunkByWidest, IsShrunkFromSide, IsShrunkInTurns}

abbrev pub IsShrunkByChoice : Choice → List ℕ → ℕ → List ℕ → List ℕ → Type 0
IsShrunkByChoice None least by widths sizes = IsShrunkInTurns 0 least by widths sizes
IsShrunkByChoice MinLeft least by widths sizes = IsShrunkByNarrowest false least by widths sizes
IsShrunkByChoice MinRight least by widths sizes = IsShrunkByNarrowest true least by widths sizes
IsShrunkByChoice MaxLeft least by widths sizes = IsShrunkByWidest false least by widths sizes
IsShrunkByChoice MaxRight least by widths sizes = IsShrunkByWidest true least by widths sizes
IsShrunkByChoice Left least by widths sizes = IsShrunkFromSide false least by widths sizes
IsShrunkByChoice Right least by widths sizes = IsShrunkFromSide true least by widths sizes

abbrev pub IsGrownByChoice : Choice → ℕ → List ℕ → List ℕ → Type 0
IsGrownByChoice None by widths sizes = IsGrownInTurns 0 by widths sizes
IsGrownByChoice MinLeft by widths sizes = IsGrownByNarrowest false by widths sizes
IsGrownByChoice MinRight by widths sizes = IsGrownByNarrowest true by widths sizes
IsGrownByChoice MaxLeft by widths sizes = IsGrownByWidest false by widths sizes
IsGrownByChoice MaxRight by widths sizes = IsGrownByWidest true by widths sizes
IsGrownByChoice Left by widths sizes = IsGrownFromSide false by widths sizes
IsGrownByChoice Right by widths sizes = IsGrownFromSide true by widths sizes
