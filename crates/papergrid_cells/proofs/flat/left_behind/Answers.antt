use Rattle.std.proofs.Common.{◌-◌, ◌+◌, length, drop, ap, subst, sym, ◌∙◌, arith}
use Rattle.std.specs.String.Boundary.{IsSplitPoint}
use Rattle.papergrid_cells.proofs.LaidRows.{used-inside, used-left, used-split}
use Rattle.papergrid_cells.proofs.flat.left_behind.Goals as goal

pub overflow_sub-begin : goal.overflow_sub-begin
overflow_sub-begin c = c.requires.slot.inside

pub overflow_add-used : goal.overflow_add-used
overflow_add-used c =
    omega (arith, used-inside c.args.left.now c.args.slot.now c.requires.slot c.args.free c.requires.free, c.kept.ensures)

pub overflow_add-begin : goal.overflow_add-begin
overflow_add-begin c =
    omega (arith, used-inside c.args.left.now c.args.slot.now c.requires.slot c.args.free c.requires.free, c.kept.ensures)

pub range_from-requires : goal.range_from-requires
range_from-requires c =
    let left = c.args.left.now in
    let slot = c.args.slot.now in
    let own : IsSplitPoint left (length left - slot.rest + (c.kept.result + (slot.width - c.args.free))) =
    subst (λ n. IsSplitPoint left (length left - slot.rest + (n + (slot.width - c.args.free)))) (sym c.kept.ensures)
    (used-split left slot c.requires.slot c.args.free c.requires.free) in
    λ more. (own.0, own.1 more)

pub returns : goal.returns
returns c = λ has.
    let left = c.args.left.now in
    let slot = c.args.slot.now in
    c.range_from.ensures.value
    ∙ (ap (λ n. drop (length left - slot.rest + (n + (slot.width - c.args.free))) left) c.kept.ensures
    ∙ used-left left slot has c.args.free c.requires.free)
