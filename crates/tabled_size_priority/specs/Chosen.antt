-- The priority of a name: which one it is, and what it makes of widths.
use Rattle.std.specs.Prelude.{◌≡◌, ℕ, true, false, List, Option}
use Rattle.tabled_size_priority.specs.declared.choice.Choice.{Choice}
use Rattle.tabled_size_priority.specs.declared.choice.Choice.TheVariants.{None as InTurns, MinLeft, MinRight, MaxLeft, MaxRight, Left, Right}
use Rattle.tabled_size_priority.specs.declared.chosen.PriorityChosen.{PriorityChosen}
use Rattle.tabled_size_priority.specs.declared.chosen.PriorityChosen.TheVariants.{None as GoesRound, Min as NarrowestFirst, Max as WidestFirst, Left as LeftFirst, Right as RightFirst}
use Rattle.tabled_size_priority.specs.Growing.{IsGrownByNarrowest, IsGrownByWidest, IsGrownFromSide}
use Rattle.tabled_size_priority.specs.Peaks.{narrowest_peaks, side_peaks, turn_peaks, widest_peaks}
use Rattle.tabled_size_priority.specs.Shrinking.{IsShrunkByNarrowest, IsShrunkByWidest, IsShrunkFromSide}
use Rattle.tabled_size_priority.specs.Turns.{grows_in_turns, shrinks_in_turns}

-- the priority of a name: one that goes round begins at the first column, and of equal widths one side goes first
abbrev pub chosen : Choice → PriorityChosen
chosen InTurns = GoesRound 0
chosen MinLeft = NarrowestFirst false
chosen MinRight = NarrowestFirst true
chosen MaxLeft = WidestFirst false
chosen MaxRight = WidestFirst true
chosen Left = LeftFirst (record {})
chosen Right = RightFirst (record {})

-- ---- it does what the one that it holds does

-- something is made by the one that is held, and what it is then is held by one of the same kind
abbrev pub HoldsThen : {S P : Type 0} → (S → P) → P → (S → Type 0) → Type 0
HoldsThen {S} {P} kind after made = (held : S) × (after ≡ kind held) × made held

abbrev pub chosen_peaks : PriorityChosen → List ℕ → List ℕ → Option ℕ → PriorityChosen → Type 0
chosen_peaks (GoesRound next) least sizes answer after = HoldsThen GoesRound after (turn_peaks next least sizes answer)
chosen_peaks (NarrowestFirst side) least sizes answer after = HoldsThen NarrowestFirst after (narrowest_peaks side least sizes answer)
chosen_peaks (WidestFirst side) least sizes answer after = HoldsThen WidestFirst after (widest_peaks side least sizes answer)
chosen_peaks (LeftFirst left) least sizes answer after = HoldsThen LeftFirst after (side_peaks false left least sizes answer)
chosen_peaks (RightFirst right) least sizes answer after = HoldsThen RightFirst after (side_peaks true right least sizes answer)

abbrev pub chosen_shrinks : PriorityChosen → List ℕ → ℕ → List ℕ → PriorityChosen → List ℕ → Type 0
chosen_shrinks (GoesRound next) least by widths after sizes = HoldsThen GoesRound after (λ then. shrinks_in_turns next least by widths then sizes)
chosen_shrinks (NarrowestFirst side) least by widths after sizes = IsShrunkByNarrowest side least by widths sizes × (after ≡ NarrowestFirst side)
chosen_shrinks (WidestFirst side) least by widths after sizes = IsShrunkByWidest side least by widths sizes × (after ≡ WidestFirst side)
chosen_shrinks (LeftFirst left) least by widths after sizes = IsShrunkFromSide false least by widths sizes × (after ≡ LeftFirst left)
chosen_shrinks (RightFirst right) least by widths after sizes = IsShrunkFromSide true least by widths sizes × (after ≡ RightFirst right)

abbrev pub chosen_grows : PriorityChosen → ℕ → List ℕ → PriorityChosen → List ℕ → Type 0
chosen_grows (GoesRound next) by widths after sizes = HoldsThen GoesRound after (λ then. grows_in_turns next by widths then sizes)
chosen_grows (NarrowestFirst side) by widths after sizes = IsGrownByNarrowest side by widths sizes × (after ≡ NarrowestFirst side)
chosen_grows (WidestFirst side) by widths after sizes = IsGrownByWidest side by widths sizes × (after ≡ WidestFirst side)
chosen_grows (LeftFirst left) by widths after sizes = IsGrownFromSide false by widths sizes × (after ≡ LeftFirst left)
chosen_grows (RightFirst right) by widths after sizes = IsGrownFromSide true by widths sizes × (after ≡ RightFirst right)
