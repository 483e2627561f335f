use Rattle.std.proofs.Common.{◌<◌, ◌^◌, length, ap, subst, sym, arith, length-append, rules}
use Rattle.std.proofs.Math.Utf8.{encodes}
use Rattle.grid_records_fronts.specs.Fronts.{BeginsWithNoSimple}
use Rattle.grid_records_fronts.proofs.Beginnings.{begins-utf8}
use Rattle.grid_records_fronts.proofs.HasFront.{addend-shorter, front-behind, front-measure, front-shown, front-start, front-step, has-addend}
use Rattle.grid_records_fronts.proofs.front.measured_front.Goals as goal

pub loop-own-init : goal.loop-own-init
loop-own-init c = (front-start c.args.text.now, c.utf8.text)

pub overflow_add-columns : goal.overflow_add-columns
overflow_add-columns c =
    let known = c.loop-own.invariant.0 in
    let addend = has-addend _ _ _ c.in-Some.ensures.found in
    let few = addend.addend.few in
    let smaller = addend-shorter c.loop-own.rest.now c.in-Some.behind.now c.in-Some.own addend in
    let size : length c.args.text.now < 2 ^ 63 = search rules in
    omega (arith, known.bound, few, smaller, size, ap length known.begins.parts, length-append (encodes known.characters) c.loop-own.rest.now)

pub loop-own-smaller : goal.loop-own-smaller
loop-own-smaller c = addend-shorter c.loop-own.rest.now c.in-Some.behind.now c.in-Some.own (has-addend _ _ _ c.in-Some.ensures.found)

pub loop-own-preserved : goal.loop-own-preserved
loop-own-preserved c =
    let addend = has-addend _ _ _ c.in-Some.ensures.found in
    (front-step _ _ _ _ _ c.loop-own.invariant.0 addend, begins-utf8 _ _ _ c.loop-own.invariant.1 addend.begins)

pub returns-clause-shown : goal.returns-clause-shown
returns-clause-shown c = front-shown _ _ _ c.loop-own.invariant.0

pub returns-clause-columns : goal.returns-clause-columns
returns-clause-columns c = front-measure _ _ _ c.loop-own.invariant.0

pub returns-clause-ends : goal.returns-clause-ends
returns-clause-ends c = subst BeginsWithNoSimple (sym (front-behind _ _ _ c.loop-own.invariant.0)) c.in_default.ensures.none
