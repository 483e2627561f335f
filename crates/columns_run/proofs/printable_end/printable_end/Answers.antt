use Rattle.std.proofs.Common.{◌≡◌, ◌-◌, ◌<◌, ◌≤◌, arith, ap, ◌∙◌, w64}
use Rattle.std.specs.Int.{bit_at, trailing_zeros}
use Rattle.std.proofs.lemmas.Bool.Decides.{nat_tests}
use Rattle.columns_run.proofs.Lanes.{below-lowest, lowest-lane, no-bit, printable-at}
use Rattle.columns_run.proofs.printable_end.printable_end.Goals as goal

pub returns-then-others-eq0-clause-printable : goal.returns-then-others-eq0-clause-printable
returns-then-others-eq0-clause-printable c = λ k low high.
    let mask = c.others_in-others.result in
    let zero : mask ≡ 0 = grind (arith, nat_tests) in
    printable-at c.args.bytes.now c.args.start mask c.others_in-others.ensures.bits k low high (ap (λ m. bit_at m (k - c.args.start)) zero ∙ no-bit (k - c.args.start))

pub returns-else-others-eq0-clause-within : goal.returns-else-others-eq0-clause-within
returns-else-others-eq0-clause-within c =
    let mask = c.others_in-others.result in
    let some : 0 < mask = grind (arith, nat_tests) in
    let most : trailing_zeros w64 mask ≤ 16 = lowest-lane mask some c.others_in-others.type_inv c.others_in-others.ensures.few in
    let room = c.if-bytes-start-lt-LANES.false in
    (omega arith, omega (arith, most, room))

pub returns-else-others-eq0-clause-printable : goal.returns-else-others-eq0-clause-printable
returns-else-others-eq0-clause-printable c = λ k low high.
    let mask = c.others_in-others.result in
    let some : 0 < mask = grind (arith, nat_tests) in
    let most : trailing_zeros w64 mask ≤ 16 = lowest-lane mask some c.others_in-others.type_inv c.others_in-others.ensures.few in
    printable-at c.args.bytes.now c.args.start mask c.others_in-others.ensures.bits k low (omega (arith, high, most))
    (below-lowest mask some c.others_in-others.type_inv c.others_in-others.ensures.few (k - c.args.start) (omega (arith, low, high)))
