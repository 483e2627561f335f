-- A step over text or over a sequence.
use Rattle.std.proofs.Common.{ℕ, ◌-◌, ◌<◌, List, length, subst, sym, arith, eqb-true}
use Rattle.ansi_str_search.proofs.Walks.{SamePlace, SamePlace-none, SamePlace-end, SamePlace-plain, SamePlace-sequence, run_left, run_boundary, run_none}
use Rattle.ansi_str_search.proofs.places.Place.after.Goals as goal

pub range_from-place-requires : goal.range_from-place-requires
range_from-place-requires c = λ some. run_boundary c.loop-left.place.rest.now c.loop-left.place.style c.loop-left.left c.args.self.now.rest.now c.args.self.now.style c.args.n c.loop-left.invariant c.text_len-len.result c.text_len-len.ensures.value

pub overflow_sub-left : goal.overflow_sub-left
overflow_sub-left c = run_left c.loop-left.place.rest.now c.loop-left.place.style c.loop-left.left c.args.self.now.rest.now c.args.self.now.style c.args.n c.loop-left.invariant c.text_len-len.result c.text_len-len.ensures.value

pub loop-left-preserved-then-len-gt0 : goal.loop-left-preserved-then-len-gt0
loop-left-preserved-then-len-gt0 c =
    let self = c.args.self.now in
    subst (λ (rest : List ℕ). SamePlace rest c.loop-left.place.style (c.loop-left.left - c.text_len-len.result) self.rest.now self.style c.args.n) (sym c.range_from-place.ensures.value)
    (SamePlace-plain c.loop-left.place.rest.now c.loop-left.place.style c.loop-left.left self.rest.now self.style c.args.n c.loop-left.invariant c.text_len-len.result c.text_len-len.ensures.value)

pub loop-left-preserved : goal.loop-left-preserved
loop-left-preserved c =
    let self = c.args.self.now in
    let place = c.loop-left.place in
    let after = c.past_item-place.result in
    let some : 0 < c.loop-left.left = c.loop-left-test.true in
    let none = run_none place.rest.now c.loop-left.left c.text_len-len.result c.text_len-len.ensures.value c.if-len-gt0.false some in
    SamePlace-sequence place.rest.now place.style c.loop-left.left self.rest.now self.style c.args.n c.loop-left.invariant after.style after.rest.now c.past_item-place.ensures.first none some

pub returns-else-not-is_empty-clause-rest : goal.returns-else-not-is_empty-clause-rest
returns-else-not-is_empty-clause-rest c =
    let self = c.args.self.now in
    let place = c.loop-left.place in
    (SamePlace-end place.rest.now place.style c.loop-left.left self.rest.now self.style c.args.n c.loop-left.invariant (eqb-true (length place.rest.now) 0 (sym c.if-not-is_empty.ensures))).0

pub returns-else-not-is_empty-clause-style : goal.returns-else-not-is_empty-clause-style
returns-else-not-is_empty-clause-style c =
    let self = c.args.self.now in
    let place = c.loop-left.place in
    (SamePlace-end place.rest.now place.style c.loop-left.left self.rest.now self.style c.args.n c.loop-left.invariant (eqb-true (length place.rest.now) 0 (sym c.if-not-is_empty.ensures))).1

pub returns-after-loop-left-clause-rest : goal.returns-after-loop-left-clause-rest
returns-after-loop-left-clause-rest c =
    let self = c.args.self.now in
    let place = c.loop-left.place in
    (SamePlace-none place.rest.now place.style c.loop-left.left self.rest.now self.style c.args.n c.loop-left.invariant (omega (arith, c.loop-left-test.false))).0

pub returns-after-loop-left-clause-style : goal.returns-after-loop-left-clause-style
returns-after-loop-left-clause-style c =
    let self = c.args.self.now in
    let place = c.loop-left.place in
    (SamePlace-none place.rest.now place.style c.loop-left.left self.rest.now self.style c.args.n c.loop-left.invariant (omega (arith, c.loop-left-test.false))).1
