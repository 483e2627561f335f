-- A priority that has leasts of its own: widths shrink to them first, and then on.
use Rattle.std.specs.Prelude.{◌≡◌, ◌<◌, ℕ, List, length, map, max, slice_index, Option}
use Rattle.tabled_size_priority.specs.LevelRules.Columns.{column_numbers}
use Rattle.tabled_size_priority.specs.Peaking.{NoneAbove}

-- the priority that names the columns, and the leasts
pub record OwnLeasts (P : Type 0) : Type 0 where
  pub priority : P
  pub leasts : List ℕ

-- of each column the greater one of two leasts
abbrev pub greater : List ℕ → List ℕ → List ℕ
greater own least = map (λ column. max (slice_index own column) (slice_index least column)) (column_numbers own)

-- its own leasts count where a column is to shrink, and there is one for each column
abbrev pub AreCounted : List ℕ → List ℕ → List ℕ → Type 0
AreCounted own least sizes = (0 < length least) × (length own ≡ length sizes)

-- the two steps: where its own leasts count, the columns that are above both leasts are named as long as there is one, and
-- then those that are above the table's; it keeps the greater ones
pub record GoInTwoSteps (own least sizes asked kept : List ℕ) : Type 0 where
  pub to_own : AreCounted own least sizes → ¬ (NoneAbove (greater own least) sizes (length sizes)) → asked ≡ greater own least
  pub and_on : AreCounted own least sizes → NoneAbove (greater own least) sizes (length sizes) → asked ≡ least
  pub raised : AreCounted own least sizes → kept ≡ greater own least
  pub without : ¬ (AreCounted own least sizes) → (asked ≡ least) × (kept ≡ own)

-- what it answers: what its priority answers to the leasts of the step
pub record NamesInTwoSteps {P : Type 0} (peaks : P → List ℕ → List ℕ → Option ℕ → P → Type 0) (before : OwnLeasts P) (least sizes : List ℕ) (answer : Option ℕ) (after : OwnLeasts P) : Type 0 where
  pub asked : List ℕ
  pub steps : GoInTwoSteps before.leasts least sizes asked after.leasts
  pub named : peaks before.priority asked sizes answer after.priority
