use Rattle.std.proofs.Common.{◌≡◌, ◌<◌, ℕ, List, Option, Bool, false, arith, ap, get_or, length, subst, sym, ◌∙◌}
use Rattle.std.specs.Prelude.{◌==◌}
use Rattle.std.specs.Vec.{with_items}
use Rattle.std.proofs.lemmas.Bool.Decides.{nat_tests}
use Rattle.std.proofs.lemmas.List.{with_items_is}
use Rattle.tabled_size_priority.specs.Leasts.{AreCounted, NamesInTwoSteps, OwnLeasts, greater}
use Rattle.tabled_size_priority.specs.Peaking.{NoneAbove}
use Rattle.tabled_size_priority.proofs.Stepping.{step-on, step-to-own, step-without}
use Rattle.tabled_size_priority.proofs.least.PriorityLeastPeaker.peak.Given.{Over}
use Rattle.tabled_size_priority.proofs.least.PriorityLeastPeaker.peak.Goals as goal
use Rattle.tabled_size_priority.proofs.least.PriorityLeastPeaker.peak.Goals.{After-raise, then-is_empty-via-then-is_empty, then-is_empty-via-else-is_empty+then-len-values}

are-counted : (own least sizes : List ℕ) (is_empty : Bool) → is_empty ≡ (length least == 0) → is_empty ≡ false → length own ≡ length sizes → AreCounted own least sizes
are-counted own least sizes is_empty told no_empty equal = (grind (arith, nat_tests, told, no_empty), equal)

pub returns-then-is_empty : goal.returns-then-is_empty
returns-then-is_empty g c =
    let inside : OwnLeasts g.row.P.Denot = record { priority = c.self.inside.priority; leasts = c.self.inside.leasts.items } in
    let same : inside ≡ c.args.self.now = c.self.view_is in
    let not_counted : ¬ (AreCounted inside.leasts c.args.mins.now c.args.values.now) = λ counted. elim c.then-is_empty.branch [
      | then-is_empty-via-then-is_empty w ↦ (let some : 0 < length c.args.mins.now = counted.0 in grind (arith, some, w.if-is_empty, c.is_empty.ensures))
      | then-is_empty-via-else-is_empty+then-len-values w ↦ (let equal : length inside.leasts ≡ length c.args.values.now = counted.1 in grind (arith, equal, w.if-len-values, w.len))
    ] in
    subst (λ (before : OwnLeasts g.row.P.Denot). NamesInTwoSteps g.P.Peaker.peaks before c.args.mins.now c.args.values.now c.peak.result (record { priority = c.peak.new.self; leasts = inside.leasts })) same
    (step-without g.P.Peaker.peaks inside c.args.mins.now c.args.values.now c.peak.result c.peak.new.self not_counted c.peak.ensures)

-- each least is the greater of both
kept : (g : Over) (c : After-raise g) → (with_items c.self.inside.leasts c.raise.new.leasts).items ≡ greater c.self.inside.leasts.items c.args.mins.now
kept g c =
    let raised = c.raise.ensures ∙ ap (λ own. greater own c.args.mins.now) c.deref_mut.ensures.value in
    let size : length c.raise.new.leasts ≡ c.self.inside.leasts.len = c.raise.auto.leasts ∙ c.deref_mut.ensures.len in
    with_items_is c.self.inside.leasts c.raise.new.leasts size ∙ raised

counted : (g : Over) (c : After-raise g) → AreCounted c.self.inside.leasts.items c.args.mins.now c.args.values.now
counted g c = are-counted c.self.inside.leasts.items c.args.mins.now c.args.values.now c.is_empty.result c.is_empty.ensures c.if-is_empty.false (sym c.self.inside.leasts.ok.0 ∙ (sym c.len.ensures ∙ c.if-len-values.false))

-- what was named where both hold, by the value that is seen
named_here : (g : Over) (c : After-raise g) (column : Option ℕ) (after : g.row.P.Denot)
    → NamesInTwoSteps g.P.Peaker.peaks (record { priority = c.self.inside.priority; leasts = c.self.inside.leasts.items }) c.args.mins.now c.args.values.now column (record { priority = after; leasts = greater c.self.inside.leasts.items c.args.mins.now })
    → NamesInTwoSteps g.P.Peaker.peaks c.args.self.now c.args.mins.now c.args.values.now column (record { priority = after; leasts = (with_items c.self.inside.leasts c.raise.new.leasts).items })
named_here g c column after named =
    subst (λ (leasts : List ℕ). NamesInTwoSteps g.P.Peaker.peaks c.args.self.now c.args.mins.now c.args.values.now column (record { priority = after; leasts = leasts })) (sym (kept g c))
    (subst (λ (before : OwnLeasts g.row.P.Denot). NamesInTwoSteps g.P.Peaker.peaks before c.args.mins.now c.args.values.now column (record { priority = after; leasts = greater c.self.inside.leasts.items c.args.mins.now })) c.self.view_is named)

pub returns-in-Some : goal.returns-in-Some
returns-in-Some g c =
    let at = (goal.at.returns-in-Some g c).After-raise in
    let own = c.self.inside.leasts.items in
    let sizes = c.args.values.now in
    let found = c.in-Some.ensures {u = tt} in
    let some : ¬ (NoneAbove (greater own c.args.mins.now) sizes (length sizes)) = λ none.
    let above = subst (λ (asked : List ℕ). get_or asked c.in-Some.field-0 0 < get_or sizes c.in-Some.field-0 0) (c.deref.ensures.value ∙ kept g at) found.2 in
    omega (arith, above, none c.in-Some.field-0 (found.1)) in
    let named = subst (λ (asked : List ℕ). g.P.Peaker.peaks c.self.inside.priority asked sizes c.peak-in-Some.result c.peak-in-Some.new.self) (c.deref-in-Some.ensures.value ∙ kept g at) c.peak-in-Some.ensures in
    named_here g at c.peak-in-Some.result c.peak-in-Some.new.self
    (step-to-own g.P.Peaker.peaks (record { priority = c.self.inside.priority; leasts = own }) c.args.mins.now sizes c.peak-in-Some.result c.peak-in-Some.new.self (counted g at) some named)

pub returns-in-None : goal.returns-in-None
returns-in-None g c =
    let at = (goal.at.returns-in-None g c).After-raise in
    let own = c.self.inside.leasts.items in
    let sizes = c.args.values.now in
    let none : NoneAbove (greater own c.args.mins.now) sizes (length sizes) =
    subst (λ (asked : List ℕ). NoneAbove asked sizes (length sizes)) (c.deref.ensures.value ∙ kept g at) (λ other below. c.in-None.ensures {u = tt} other (omega arith) below) in
    named_here g at c.peak-in-None.result c.peak-in-None.new.self
    (step-on g.P.Peaker.peaks (record { priority = c.self.inside.priority; leasts = own }) c.args.mins.now sizes c.peak-in-None.result c.peak-in-None.new.self (counted g at) none c.peak-in-None.ensures)
