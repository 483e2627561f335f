use Rattle.std.proofs.Common.{ℕ, ◌<◌, List, length, get_or, subst, sym, ap, ◌∙◌, arith}
use Rattle.std.proofs.lemmas.List.Sums.{fold_more}
use Rattle.grid_records_estimate.specs.declared.need.Need.{Need}
use Rattle.grid_records_estimate.specs.Estimates.{meet}
use Rattle.grid_records_estimate.specs.Collecting.{HasBetween, PassesMax}
use Rattle.grid_records_estimate.proofs.Meets.{OnErr-always, PassesMax-later}
use Rattle.grid_records_estimate.proofs.shares.meet_all.Goals as goal

none : Need
none = record { length = 0; first = 0; cross_track = 0; size = 0 }

pub returns-in_err-meet-clause-range : goal.returns-in_err-meet-clause-range
unfolding none
returns-in_err-meet-clause-range c = λ has_boundary inner.
    let needs = c.args.needs.now in
    let i = c.loop-need.need-index in
    let inside : i < length needs = omega arith in
    let P : ℕ → Type 0 = λ n. HasBetween has_boundary n c.args.between in
    let Q : List ℕ → Type 0 = λ xs. PassesMax (meet has_boundary xs (get_or needs i none)) in
    let passes = c.in_err-meet.ensures.range has_boundary (subst P (sym c.loop-need.auto.sizes) inner) in
    OnErr-always c.from_residual.result (PassesMax-later has_boundary c.args.sizes.now needs i none inside (subst Q (c.loop-need.invariant has_boundary inner) passes))

pub loop-need-preserved : goal.loop-need-preserved
unfolding none
loop-need-preserved c = λ has_boundary inner.
    let needs = c.args.needs.now in
    let i = c.loop-need.need-index in
    let inside : i < length needs = omega arith in
    let P : ℕ → Type 0 = λ n. HasBetween has_boundary n c.args.between in
    c.in_ok-meet.ensures.ok has_boundary (subst P (sym c.loop-need.auto.sizes) inner)
    ∙ ap (λ xs. meet has_boundary xs (get_or needs i none)) (c.loop-need.invariant has_boundary inner)
    ∙ sym (fold_more (meet has_boundary) c.args.sizes.now needs i none inside)
