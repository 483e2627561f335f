-- A row of empty texts has as many as its table has columns.
use Rattle.std.proofs.Common.{ap, arith, refl, sym, ◌∙◌, ◌≡◌, ℕ, zero, suc, List, [], ◌<◌, length, replicate}
use Rattle.std.proofs.lemmas.List.{length-replicate}
use Rattle.std.specs.Iterator.{at_most}
use Rattle.grid_records_traits.specs.Rows.{row_at}
use Rattle.grid_records.proofs.rows.laws.empty_texts_end_for_good.Goals as goal

-- each of several rows that are the same is that row
first_of : (rows : ℕ) (row : List (List ℕ)) → 0 < rows → row_at (replicate rows row) 0 ≡ row
first_of zero row some = absurd (omega (arith, some))
first_of (suc rows) row some = refl

pub returns-clause-row : goal.returns-clause-row
returns-clause-row c = λ before after texts step.
    let row : List (List ℕ) = replicate before.columns [] in
    ap at_most (step.2 ∙ sym (ap length (first_of before.left row (omega (arith, step.0))) ∙ length-replicate before.columns []))
