-- Rows of texts, of which cells may be refused.
use Rattle.std.proofs.Common.{arith, ◌≡◌, ◌∙◌, ◌<◌, ◌+◌, ℕ, zero, suc, Bor, true, List, refl, replicate}
use Rattle.std.specs.Prelude.{MatchOption, MatchResult, Option, Result, Some, codes}
use Rattle.grid_records_traits.specs.Giving.{GivesCells, GivesEach}

-- the text of each cell
abbrev pub letter : List ℕ
letter = codes "a"

-- a call leaves less where it gives something, and else none is left, then as before
abbrev pub Goes : {A : Type 0} → ℕ → Option A → ℕ → Type 0
Goes before found after = MatchOption found ((before ≡ 0) × (after ≡ before)) (λ _. after < before)

-- a call gives one of the cells that are left, or refuses it, and then none is left
abbrev pub GivesOrRefuses : {E : Type 0} → ℕ → Option (Result (Bor (List ℕ)) E) → ℕ → Type 0
GivesOrRefuses before found after =
    Goes before found after
    × MatchOption found (Unit {0}) (λ answer. MatchResult answer (λ cell. (cell.now ≡ letter) × (after + 1 ≡ before)) (λ _. after ≡ 0))

-- a call gives one of the rows that are left; where none is left it changes nothing
abbrev pub GivesCellsOfRow : {Cells : Type 0} → ℕ → ℕ → Option Cells → (Cells → ℕ) → ℕ → ℕ → Type 0
GivesCellsOfRow before columns found cells_of after columns_then =
    (columns_then ≡ columns)
    × MatchOption found ((before ≡ 0) × (after ≡ before)) (λ cells. (after + 1 ≡ before) × (cells_of cells ≡ columns))

-- the cells of a row
module _ {S : Type 0} (E : Type 0) (left_of : S → ℕ) where
  abbrev CellSteps : S → Option (Result (Bor (List ℕ)) E) → S → Type 0
  CellSteps s r t = GivesOrRefuses (left_of s) r (left_of t)

  ended : (s : S) → left_of s ≡ 0 → (answer : Result (Bor (List ℕ)) E) (t : S) → ¬ (CellSteps s (Some answer) t)
  ended s none answer t step = omega (arith, step.0, none)

  pub each_cell : (n : ℕ) (s : S) → left_of s ≡ n → GivesCells CellSteps (λ cell. cell.now) true s (replicate n letter)
  each_cell zero s is = ended s is
  each_cell (suc n) s is = (
    λ t step. omega (arith, step.0.0, is),
    λ cell t step. (step.1.0, each_cell n t (omega (arith, step.1.1, is))),
    λ refusal t step. (refl, ended t step.1),
  )

-- the rows
pub each_row : {S Cells : Type 0} (left_of columns_of : S → ℕ) (cells_of : Cells → ℕ) (wanted : Cells → List (List ℕ) → Type 0) (columns n : ℕ) →
    ((cells : Cells) → cells_of cells ≡ columns → wanted cells (replicate columns letter)) → (s : S) → left_of s ≡ n → columns_of s ≡ columns →
    GivesEach {A = Cells} (λ s r t. GivesCellsOfRow (left_of s) (columns_of s) r cells_of (left_of t) (columns_of t)) wanted s (replicate n (replicate columns letter))
each_row left_of columns_of cells_of wanted columns zero follows s is wide = λ cells t step. omega (arith, step.1.0, is)
each_row left_of columns_of cells_of wanted columns (suc n) follows s is wide = (
  λ t step. omega (arith, step.1.0, is),
  λ cells t step. (follows cells (step.1.1 ∙ wide), each_row left_of columns_of cells_of wanted columns n follows t (omega (arith, step.1.0, is)) (step.0 ∙ wide)),
)
