use Rattle.std.proofs.Common.{ℕ, refl, subst, sym}
use Rattle.std.specs.Prelude.{Err}
use Rattle.grid_records.specs.RecordRows.Laws.Truncating.{is_left}
use Rattle.grid_records.specs.RecordRows.Truncating.{IsTruncated}
use Rattle.grid_records.proofs.rows.records.into_records.truncate_content.TruncatedCellsIterator.next.Goals as goal
use Rattle.grid_records.proofs.rows.records.into_records.truncate_content.TruncatedCellsIterator.next.Goals.{in-Ok, in-Err}

pub returns-in-Ok-answer-clause-steps : goal.returns-in-Ok-answer-clause-steps
returns-in-Ok-answer-clause-steps g c =
    let text = g.C.Cell.text in
    let width : ℕ = g.D.Dimension.width c.args.self.now.dimension c.args.self.now.column in
    let given = c.in_ok-cell.field-0 in
    let left : IsTruncated text width given c.match-branch-2.answer = elim c.match-branch-2.branch [
      | in-Ok w ↦
          subst (λ v. IsTruncated text width given v) (sym w.answer-is)
          (subst (λ v. IsTruncated text width v w.truncate-answer.result) (sym w.in-Ok.is)
          (is_left text width w.get_width.result w.in-Ok.cell w.truncate-answer.result w.get_width.ensures w.truncate-answer.ensures.ok w.truncate-answer.ensures.whole w.truncate-answer.ensures.refused))
      | in-Err w ↦
          subst (λ v. IsTruncated text width given v) (sym w.answer-is)
          (subst (λ v. IsTruncated text width v (Err w.in-Err.refusal)) (sym w.in-Err.is) tt)
    ] in (
      refl,
      (
        c.in-Some.cells,
        c.next.new.self,
        given,
        c.in-Some.is,
        c.in_ok-cell.ensures.steps,
        subst (λ v. IsTruncated text width given v) c.in-Ok-answer.is left,
        (refl, c.next_column-self.ensures),
      ),
    )

pub returns-in-Err-answer-clause-steps : goal.returns-in-Err-answer-clause-steps
returns-in-Err-answer-clause-steps g c =
    let text = g.C.Cell.text in
    let width : ℕ = g.D.Dimension.width c.args.self.now.dimension c.args.self.now.column in
    let given = c.in_ok-cell.field-0 in
    let left : IsTruncated text width given c.match-branch-2.answer = elim c.match-branch-2.branch [
      | in-Ok w ↦
          subst (λ v. IsTruncated text width given v) (sym w.answer-is)
          (subst (λ v. IsTruncated text width v w.truncate-answer.result) (sym w.in-Ok.is)
          (is_left text width w.get_width.result w.in-Ok.cell w.truncate-answer.result w.get_width.ensures w.truncate-answer.ensures.ok w.truncate-answer.ensures.whole w.truncate-answer.ensures.refused))
      | in-Err w ↦
          subst (λ v. IsTruncated text width given v) (sym w.answer-is)
          (subst (λ v. IsTruncated text width v (Err w.in-Err.refusal)) (sym w.in-Err.is) tt)
    ] in (
      refl,
      (
        c.in-Some.cells,
        c.next.new.self,
        given,
        c.in-Some.is,
        c.in_ok-cell.ensures.steps,
        subst (λ v. IsTruncated text width given v) c.in-Err-answer.is left,
        refl,
      ),
    )
