-- The runs of units that a line is wrapped into.
use Rattle.std.specs.Prelude.{◌≡◌, ◌≤◌, ◌<◌, ℕ, nat_le, All, List, [], ◌∷◌, ◌++◌, length, filter, flat_map}
use Rattle.std.specs.List.{sum_by}
use Rattle.tabled_size_wrap.specs.Units.{LineUnit}

-- the columns that units take together
abbrev pub run_cost : List LineUnit → ℕ
run_cost run = sum_by (λ unit. unit.cost) run

-- a run of units fits into a line: those that cost at most the width sum to at most the width. Those before one that
-- costs more sum below the width, so that it has a column left, and those after it to nothing
pub record FitsRun (width : ℕ) (run : List LineUnit) : Type 0 where
  pub narrow : run_cost (filter (λ unit. nat_le unit.cost width) run) ≤ width
  pub wide : (before behind : List LineUnit) (unit : LineUnit) → run ≡ before ++ unit ∷ behind → width < unit.cost →
      (run_cost before < width) × (run_cost behind ≡ 0)

-- of all runs of the first units that fit, the longest one; and what is left after it
pub record IsLongestRun (width : ℕ) (units run left : List LineUnit) : Type 0 where
  pub parted : units ≡ run ++ left
  pub fits : FitsRun width run
  pub longest : (other more : List LineUnit) → units ≡ other ++ more → FitsRun width other → length other ≤ length run

-- runs, each of which is the longest of what the ones before it left
abbrev pub AreLongestRuns : ℕ → List LineUnit → List (List LineUnit) → Type 0
AreLongestRuns width units [] = units ≡ []
AreLongestRuns width units (run ∷ runs) =
    (left : List LineUnit) × (0 < length run) × IsLongestRun width units run left × AreLongestRuns width left runs

-- the runs that a line of these units is wrapped into; no units are one empty run
abbrev pub AreRunsOf : ℕ → List LineUnit → List (List LineUnit) → Type 0
AreRunsOf width [] runs = runs ≡ [] ∷ []
AreRunsOf width (unit ∷ units) runs = AreLongestRuns width (unit ∷ units) runs

-- any runs of units that fit, and that joined are the units
pub record AreFittingRuns (width : ℕ) (units : List LineUnit) (runs : List (List LineUnit)) : Type 0 where
  pub joined : flat_map (λ run. run) runs ≡ units
  pub fit : All (FitsRun width) runs
