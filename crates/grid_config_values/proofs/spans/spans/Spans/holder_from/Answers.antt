use Rattle.std.proofs.Common.{◌≡◌, ◌∙◌, true, sym}
use Rattle.std.specs.Ordering.{is_le}
use Rattle.grid_config_values.specs.Order.{position_cmp}
use Rattle.grid_config_values.proofs.SpansLemmas.Owners.{found_hides, found_passes, goes_on, less_left, none_before_next, none_hides_before, none_left}
use Rattle.grid_config_values.proofs.spans.spans.Spans.holder_from.Goals as goal

pub returns-then-not-begins_before-clause-found : goal.returns-then-not-begins_before-clause-found
returns-then-not-begins_before-clause-found c =
    none_hides_before c.args.self.now c.args.pos c.next_from.ensures.ordered c.loop-anchor.from c.loop-anchor.invariant (c.in-Some.anchor, c.in-Some.extent) (sym c.in-Some.ensures.found)
    (sym c.begins_before.ensures ∙ c.if-not-begins_before.true)

pub returns-then-holds-clause-found : goal.returns-then-holds-clause-found
returns-then-holds-clause-found c =
    found_hides c.args.self.now c.args.pos c.next_from.ensures.ordered c.loop-anchor.from c.loop-anchor.invariant (c.in-Some.anchor, c.in-Some.extent) (sym c.in-Some.ensures.found) c.in-Some.ensures.kept
    (sym c.begins_before.ensures ∙ c.if-not-begins_before.false) (sym c.holds.ensures ∙ c.if-holds.true)

pub loop-anchor-smaller : goal.loop-anchor-smaller
loop-anchor-smaller c =
    let behind : is_le (position_cmp c.loop-anchor.from c.in-Some.anchor) ≡ true = (found_passes (λ _. Unit {0}) _ c.args.self.now (c.in-Some.anchor, c.in-Some.extent) (λ k d lt. tt) (sym c.in-Some.ensures.found)).0 in
    less_left c.args.pos c.loop-anchor.from c.passed-from.result (goes_on c.loop-anchor.from c.in-Some.anchor c.passed-from.result behind c.passed-from.ensures.further) c.passed-from.ensures.row c.passed-from.ensures.column

pub loop-anchor-preserved : goal.loop-anchor-preserved
loop-anchor-preserved c =
    none_before_next c.args.self.now c.args.pos c.next_from.ensures.ordered c.loop-anchor.from c.loop-anchor.invariant (c.in-Some.anchor, c.in-Some.extent) c.passed-from.result (sym c.in-Some.ensures.found) c.in-Some.ensures.kept
    (sym c.holds.ensures ∙ c.if-holds.false) c.passed-from.ensures.none

pub returns-clause-found : goal.returns-clause-found
returns-clause-found c =
    none_left c.args.self.now c.args.pos c.next_from.ensures.ordered c.loop-anchor.from c.loop-anchor.invariant (sym c.next_from.ensures.found ∙ c.in_default.is)
