use Rattle.std.proofs.Common.{◌≡◌, ◌-◌, length, take, ap, subst, sym, ◌∙◌, arith}
use Rattle.std.specs.Prelude.{IsCharBoundary}
use Rattle.papergrid_cells.proofs.LaidRows.{lead-before, middle-boundary, middle-taken}
use Rattle.papergrid_cells.proofs.flat.left_before.Goals as goal

pub overflow_sub-begin : goal.overflow_sub-begin
overflow_sub-begin c = c.requires.inside

pub overflow_sub-begin-2 : goal.overflow_sub-begin-2
overflow_sub-begin-2 c = omega (arith, lead-before c.args.left.now c.args.slot.now c.requires, ap (λ l. length l) c.lead.ensures)

pub range-requires-clause-end_boundary : goal.range-requires-clause-end_boundary
range-requires-clause-end_boundary c =
    let left = c.args.left.now in
    subst (λ n. IsCharBoundary left (length left - c.args.slot.now.rest - n)) (sym (ap (λ l. length l) c.lead.ensures)) (middle-boundary left c.args.slot.now c.requires)

pub returns : goal.returns
returns c = λ has.
    let left = c.args.left.now in
    let begin = length left - c.args.slot.now.rest in
    let len = length c.lead.result.now in
    let same : begin - len - 0 ≡ begin - len = omega arith in
    c.range.ensures.value
    ∙ (ap (λ n. take n left) same
    ∙ (ap (λ n. take (begin - n) left) (ap (λ l. length l) c.lead.ensures)
    ∙ middle-taken left c.args.slot.now has))
