use Rattle.std.proofs.Common.{◌∙◌, ◌≡◌, ap, arith, length, sum, ◌≤◌}
use Rattle.basinmug_columns.proofs.Sums.{kept-within, placed-length, shrunk-below}
use Rattle.basinmug_columns.proofs.rooms.shrink_columns.Goals as goal

pub shrink-requires-clause-leasts : goal.shrink-requires-clause-leasts
shrink-requires-clause-leasts c = ap length (c.deref-2.ensures.value ∙ c.in_ok-first.ensures) ∙ placed-length _ _

pub sum_of-requires : goal.sum_of-requires
sum_of-requires c = let less : sum c.shrink.new.widths ≤ sum c.args.widths.now = shrunk-below _ _ _ _ _ c.shrink.ensures in omega (arith, less, c.requires)

pub overflow_sub-given : goal.overflow_sub-given
overflow_sub-given c =
    let less : sum c.shrink.new.widths ≤ sum c.args.widths.now = shrunk-below _ _ _ _ _ c.shrink.ensures in
    omega (arith, less, c.sum_of.ensures, c.sum_of-before.ensures)

pub shrink-requires-2-clause-leasts : goal.shrink-requires-2-clause-leasts
shrink-requires-2-clause-leasts c =
    let kept : length c.deref-3.result.now ≡ length c.args.widths.now =
    ap length (c.deref-3.ensures.value ∙ c.in_ok-kept.ensures) ∙ (kept-within c.args.needs.now c.args.by c.args.widths.now).count in
    omega (arith, kept, c.shrink.auto.widths)
