use Rattle.std.proofs.Common.{Bool, Some, inl, inr, subst}
use Rattle.basinmug_bounded.specs.Cells.{IsReadCells}
use Rattle.basinmug_head.specs.Heads.{records_read}
use Rattle.basinmug_bounded.proofs.laws.texts_by_hand.Goals as goal

pub returns-clause-numbers : goal.returns-clause-numbers
returns-clause-numbers c = λ lists text old new size outcome.
    elim outcome [
      | inl refused ↦ absurd (cc refused.is)
      | inr printed ↦ (printed.options, printed.printed)
    ]

pub returns-clause-cells : goal.returns-clause-cells
returns-clause-cells c = λ lists all old new size outcome.
    elim outcome [
      | inl refused ↦ absurd (cc refused.is)
      | inr printed ↦ (printed.options, printed.printed)
    ]

pub returns-clause-header_of_cells : goal.returns-clause-header_of_cells
returns-clause-header_of_cells c = λ options all old new size headed printed.
    elim printed [
      | inl refused ↦ absurd (cc refused.is)
      | inr are ↦ (are.rows, subst (λ (header : Bool). IsReadCells options.escapes (records_read header (Some 1)) all are.rows) headed are.read)
    ]
