-- Iterators over empty texts give them.
use Rattle.std.proofs.Common.{arith, ◌≡◌, ◌∙◌, ℕ, zero, suc, List, [], Bool, Bor, replicate}
use Rattle.grid_records_traits.specs.Giving.{GivesCells, GivesEach}
use Rattle.grid_records.specs.RecordRows.Sources.{GivesEmptyCells, GivesEmptyText}
use Rattle.grid_records.specs.declared.rows.records.empty.EmptyCells.{EmptyCells}
use Rattle.grid_records.specs.declared.rows.records.empty.EmptyRows.{EmptyRows}

-- n empty texts
pub each_empty_text : (E : Type 0) (can_fail : Bool) (n : ℕ) (s : EmptyCells) → s.left ≡ n →
    GivesCells {C = Bor (List ℕ)} {E = E} (GivesEmptyText {E = E}) (λ text. text.now) can_fail s (replicate n [])
each_empty_text E can_fail zero s is = λ answer t step. omega (arith, step.0, is)
each_empty_text E can_fail (suc n) s is =
    (λ t step. omega (arith, step.0, is), λ text t step. (step.1, each_empty_text E can_fail n t (omega (arith, step.0, is))), λ refusal t step. absurd step.1)

-- n rows
pub each_empty_row : (wanted : EmptyCells → List (List ℕ) → Type 0) (columns n : ℕ) →
    ((cells : EmptyCells) → cells.left ≡ columns → wanted cells (replicate columns [])) → (s : EmptyRows) → s.left ≡ n → s.columns ≡ columns →
    GivesEach GivesEmptyCells wanted s (replicate n (replicate columns []))
each_empty_row wanted columns zero follows s is wide = λ cells t step. omega (arith, step.0, is)
each_empty_row wanted columns (suc n) follows s is wide = (
  λ t step. omega (arith, step.0, is),
  λ cells t step. (follows cells (step.2 ∙ wide), each_empty_row wanted columns n follows t (omega (arith, step.0, is)) (step.1 ∙ wide)),
)
