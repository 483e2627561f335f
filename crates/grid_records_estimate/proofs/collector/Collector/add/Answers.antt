use Rattle.std.proofs.Common.{◌≡◌, ℕ, ◌==◌, if◌then◌else◌, max, ◌∷◌, [], ◌++◌, get_or, ap, ◌∙◌}
use Rattle.grid_records_estimate.specs.Collecting.{Collected, is_of_one_track}
use Rattle.grid_records_estimate.proofs.Collects.{HasCollected-other, HasCollected-plain, from_None, from_Some}
use Rattle.grid_records_estimate.proofs.Meets.{OnOk-implies}
use Rattle.grid_records_estimate.proofs.collector.Collector.add.Goals as goal

pub returns-in-Some-clause-ok : goal.returns-in-Some-clause-ok
returns-in-Some-clause-ok c = λ needs h.
    let need = c.args.need in
    let old = c.args.self.now in
    let before = c.self.inside.sizes.items in
    let after : Collected = record { sizes = c.raise.new.sizes.items; others = c.self.inside.others.items } in
    let plain = from_Some (is_of_one_track need) c.in-Some.size need.size c.in-Some.ensures in
    let sizes : before ≡ old.sizes = ap (λ view. view.sizes) c.self.view_is in
    OnOk-implies c.raise.result
    (λ (raised : (k : ℕ) → get_or c.raise.new.sizes.items k 0 ≡ (if k == need.first then max (get_or before k 0) c.in-Some.size else get_or before k 0)).
    HasCollected-plain old after needs need plain.0 (ap (λ view. view.others) c.self.view_is)
    (λ k. raised k
    ∙ ap (λ xs. if k == need.first then max (get_or xs k 0) c.in-Some.size else get_or xs k 0) sizes
    ∙ ap (λ n. if k == need.first then max (get_or old.sizes k 0) n else get_or old.sizes k 0) plain.1)
    h)
    c.raise.ensures.ok

pub returns-in_ok-push-in-None-clause-ok : goal.returns-in_ok-push-in-None-clause-ok
returns-in_ok-push-in-None-clause-ok c = λ needs h.
    let need = c.args.need in
    let old = c.args.self.now in
    let after : Collected = record { sizes = c.self.inside.sizes.items; others = c.push.new.self.items } in
    HasCollected-other old after needs need (from_None (is_of_one_track need) need.size c.in-None.ensures)
    (ap (λ view. view.sizes) c.self.view_is)
    (c.in_ok-push-in-None.ensures.items ∙ ap (λ view. view.others ++ need ∷ []) c.self.view_is)
    h
