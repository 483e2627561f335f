use Rattle.std.proofs.Common.{◌≡◌, ℕ, List, fold, length, refl, ap, sym, ◌∙◌, subst, inr}
use Rattle.std.proofs.lemmas.List.{with_items_is}
use Rattle.grid_records_estimate.specs.declared.need.Need.{Need}
use Rattle.grid_records_estimate.specs.Collecting.{AreFirstBelow, AreInTracks, Collected, Describes, HasBetween, PassesMax}
use Rattle.grid_records_estimate.specs.Estimates.{TrackNeeds, meet, track_sizes}
use Rattle.grid_records_estimate.proofs.Finishes.{not_crossed, ordered-inside, sizes-finished}
use Rattle.grid_records_estimate.proofs.Meets.{IfErr-told}
use Rattle.grid_records_estimate.proofs.collector.Collector.finish.Goals as goal
use Rattle.grid_records_estimate.proofs.collector.Collector.finish.Goals.{After-deref}

pub returns-then-cross_tracks-eq0-clause-ok : goal.returns-then-cross_tracks-eq0-clause-ok
returns-then-cross_tracks-eq0-clause-ok c = λ table described. c.clear.ensures.items ∙ sym (not_crossed table (described.cross_tracks_are ∙ c.if-cross_tracks-eq0.true))

pub meet_all-requires : goal.meet_all-requires
meet_all-requires c =
    let V : Collected → Type 0 = λ view. AreFirstBelow c.args.tracks view.others in
    let P : List Need → Type 0 = λ xs. AreInTracks (length c.deref_mut.result.now) xs in
    subst P (sym c.deref.ensures.value)
    (ordered-inside c.args.tracks c.self.inside.others.items c.in_order.result.items (length c.deref_mut.result.now)
    (sym (c.deref_mut.ensures.len ∙ c.in_ok-resize.ensures.len)) c.self.invariant (subst V (sym c.self.view_is) c.requires) c.in_order.ensures.moved)

-- what is collected, as the collector keeps it
abbrev kept : (c : After-deref) → Collected
kept c = record { sizes = c.self.inside.sizes.items; others = c.self.inside.others.items }

-- as many sizes as tracks
long : (c : After-deref) → length c.deref_mut.result.now ≡ c.args.tracks
long c = c.deref_mut.ensures.len ∙ c.in_ok-resize.ensures.len

-- what the needs make of the sizes are the sizes of the tracks
same-sizes : (c : After-deref) (table : TrackNeeds) → Describes table c.args.tracks c.args.cross_tracks c.args.between (kept c) → fold (meet table.has_boundary) c.deref_mut.result.now c.deref.result.now ≡ track_sizes table
same-sizes c table described =
    let V : Collected → Type 0 = λ view. AreFirstBelow c.args.tracks view.others in
    sizes-finished table c.args.tracks c.args.cross_tracks c.args.between (kept c) c.resize.new.self.items c.deref_mut.result.now c.in_order.result.items c.deref.result.now c.self.inside.sizes.len
    c.deref_mut.ensures.value c.deref.ensures.value c.if-cross_tracks-eq0.false
    described c.self.invariant (subst V (sym c.self.view_is) c.requires) c.in_order.ensures.moved c.in_order.ensures.sorted
    (ap length (sym c.deref_mut.ensures.value) ∙ long c) (sym c.self.inside.sizes.ok.0)
    (λ k d below inside. c.in_ok-resize.ensures.by_index.0 k d below inside) (λ k d past below. c.in_ok-resize.ensures.by_index.1 k d refl past below)

pub returns-in_err-meet_all-clause-refused : goal.returns-in_err-meet_all-clause-refused
returns-in_err-meet_all-clause-refused c = λ table described.
    let at = (goal.at.returns-in_err-meet_all-clause-refused c).After-deref in
    let P : ℕ → Type 0 = λ n. HasBetween table.has_boundary n c.args.between in
    let W : Collected → Type 0 = λ view. Describes table c.args.tracks c.args.cross_tracks c.args.between view in
    let Q : List ℕ → Type 0 = λ xs. PassesMax xs in
    IfErr-told c.from_residual-in_err-meet_all.result c.in_err-meet_all.field-0.0 _ c.from_residual-in_err-meet_all.ensures.1
    (inr (c.in_err-meet_all.ensures.fault, subst Q (same-sizes at table (subst W (sym c.self.view_is) described)) (c.in_err-meet_all.ensures.range table.has_boundary (subst P (sym (long at)) described.boundaries))))

pub returns-clause-ok : goal.returns-clause-ok
returns-clause-ok c = λ table described.
    let at = (goal.at.returns-clause-ok c).After-deref in
    let P : ℕ → Type 0 = λ n. HasBetween table.has_boundary n c.args.between in
    let W : Collected → Type 0 = λ view. Describes table c.args.tracks c.args.cross_tracks c.args.between view in
    with_items_is c.resize.new.self c.meet_all.new.sizes (c.meet_all.auto.sizes ∙ c.deref_mut.ensures.len)
    ∙ c.in_ok-meet_all.ensures.ok table.has_boundary (subst P (sym (long at)) described.boundaries) ∙ same-sizes at table (subst W (sym c.self.view_is) described)
