-- Where no row is left, none is left after the call, and likewise no cell.
use Rattle.std.proofs.Common.{ap, arith, refl, ◌≡◌, ◌∙◌, ℕ, zero, suc, List, [], length}
use Rattle.std.specs.Iterator.{at_most}
use Rattle.grid_records.specs.RecordRows.Peeking.{row_texts_from}
use Rattle.grid_records.proofs.rows.laws.peeked_rows_end_for_good.Goals as goal

none_left : (rows : List (List (List ℕ))) (row column left : ℕ) → row_texts_from rows row column left ≡ [] → left ≡ 0
none_left rows row column zero is = refl
none_left rows row column (suc left) is = absurd (omega (arith, ap length is))

pub returns-clause-rows : goal.returns-clause-rows
returns-clause-rows g c = λ before after step. step.2.1 ∙ step.2.0

pub returns-clause-cells : goal.returns-clause-cells
returns-clause-cells g c = λ before after step. ap at_most (step.0 ∙ none_left (g.R.RecordTexts.rows before.records.now) before.row before.column before.left step.1.0)
