use Rattle.std.proofs.Common.{◌≡◌, ◌≤◌, ◌<◌, ◌+◌, ℕ, [], length, sum, get_or, arith}
use Rattle.tabled_size_priority.specs.LevelRules.Moving.{moved, moved_sum, place_of}
use Rattle.tabled_size_priority.specs.LevelRules.Steps.{place-inside, all-given}
use Rattle.tabled_size_priority.proofs.levels.giving.give_in_order.Goals as goal

pub unreachable-requires : goal.unreachable-requires
unreachable-requires c =
    let n : ℕ = length c.args.widths.now in
    let amount : ℕ → ℕ = λ (i : ℕ). moved c.args.rule c.args.number (get_or c.args.widths.now i 0) 0 in
    let ended : n ≤ c.loop-place.place = c.loop-place-test.false in
    let all : sum c.loop-place.widths ≡ sum c.args.widths.now + moved_sum c.args.rule c.args.number [] c.args.widths.now =
    all-given (place_of c.args.order n) amount c.args.widths.now c.loop-place.widths c.loop-place.place c.loop-place.auto.widths
    (λ i below. let inside : place_of c.args.order n i < n = place-inside c.args.order n i c.requires.begins below in omega arith)
    c.loop-place.invariant.done in
    let so_far : sum c.loop-place.widths + c.loop-place.left ≡ sum c.args.widths.now + c.args.amount = c.loop-place.invariant.sums in
    let some : 0 < c.loop-place.left = c.loop-place.invariant.some in
    let enough : c.args.amount ≤ moved_sum c.args.rule c.args.number [] c.args.widths.now = c.requires.enough in
    omega arith
