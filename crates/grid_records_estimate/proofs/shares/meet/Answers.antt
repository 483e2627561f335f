use Rattle.std.proofs.Common.{◌≡◌, ℕ, ◌+◌, ◌-◌, List, take, drop, subst, arith, refl}
use Rattle.grid_records_estimate.specs.Estimates.{with_shares}
use Rattle.grid_records_estimate.specs.Collecting.{PassesMax}
use Rattle.grid_records_estimate.proofs.Meets.{OnErr-implies, OnOk-implies, PassesMax-put_back, meet-put_back}
use Rattle.grid_records_estimate.proofs.shares.meet.Goals as goal

pub returns-clause-ok : goal.returns-clause-ok
returns-clause-ok c = λ has_boundary inner.
    let need = c.args.need in
    let sizes = c.args.sizes.now in
    let k = need.first + need.length - need.first in
    let same : k ≡ need.length = omega arith in
    OnOk-implies c.add_shares.result
    (λ (shared : c.add_shares.new.sizes ≡ with_shares c.saturating_sub.result (take k (drop need.first sizes))).
    meet-put_back has_boundary c.args.between sizes c.add_shares.new.sizes need k _ _ _ inner c.requires.some c.requires.tracks_fit same
    c.sum.ensures.sum c.boundaries-boundaries.ensures c.saturating_sub.ensures shared)
    c.add_shares.ensures.ok

pub returns-clause-range : goal.returns-clause-range
returns-clause-range c = λ has_boundary inner.
    let need = c.args.need in
    let sizes = c.args.sizes.now in
    let k = need.first + need.length - need.first in
    let part = with_shares c.saturating_sub.result (take k (drop need.first sizes)) in
    let same : k ≡ need.length = omega arith in
    let all = meet-put_back has_boundary c.args.between sizes part need k _ _ _ inner c.requires.some c.requires.tracks_fit same
    c.sum.ensures.sum c.boundaries-boundaries.ensures c.saturating_sub.ensures refl in
    let P : List ℕ → Type 0 = λ xs. PassesMax xs in
    OnErr-implies c.add_shares.result
    (λ (passes : PassesMax part). subst P all (PassesMax-put_back has_boundary (take need.first sizes) part (drop k (drop need.first sizes)) passes))
    c.add_shares.ensures.range
