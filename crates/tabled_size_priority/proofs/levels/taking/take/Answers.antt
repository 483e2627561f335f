use Rattle.std.proofs.Common.{◌≡◌, ◌≢◌, ◌≤◌, ◌<◌, ◌+◌, ◌-◌, ◌^◌, ℕ, length, get_or, min, arith, ap, refl, subst}
use Rattle.tabled_size_priority.specs.LevelRules.Moving.{moved, moved_sum, next_of, amount_of, place_of, IsMovedInOrder}
use Rattle.tabled_size_priority.specs.LevelRules.Passes.{none-moved, taken-enough, taken-well}
use Rattle.tabled_size_priority.proofs.levels.taking.take.Goals as goal

pub number_below-found-requires-clause-some : goal.number_below-found-requires-clause-some
number_below-found-requires-clause-some c =
    let none : moved_sum c.args.rule 0 c.args.least.now c.args.widths.now ≡ 0 = none-moved c.args.rule c.args.least.now c.args.widths.now c.requires.range in
    let some : c.min-amount.result ≢ 0 = c.if-amount-eq0.false in
    omega arith

pub take_in_order-last-requires-clause-enough : goal.take_in_order-last-requires-clause-enough
take_in_order-last-requires-clause-enough c =
    let number : ℕ = c.number_below-found.result.number in
    let next_is : c.next.result ≡ next_of c.args.rule number = c.next.ensures in
    let together : moved_sum c.args.rule number c.args.least.now c.args.widths.now + moved_sum c.args.rule (next_of c.args.rule number) c.args.least.now c.take_each.new.widths
    ≡ moved_sum c.args.rule (number + 1) c.args.least.now c.args.widths.now =
    taken-enough c.args.rule number c.args.least.now c.args.widths.now c.take_each.new.widths c.requires.takes c.take_each.auto.widths c.take_each.ensures in
    let at_next : moved_sum c.args.rule c.next.result c.args.least.now c.take_each.new.widths ≡ moved_sum c.args.rule (next_of c.args.rule number) c.args.least.now c.take_each.new.widths =
    ap (λ (k : ℕ). moved_sum c.args.rule k c.args.least.now c.take_each.new.widths) next_is in
    let moved_is : c.number_below-found.result.moved ≡ moved_sum c.args.rule number c.args.least.now c.args.widths.now = c.number_below-found.ensures.moved in
    let enough : c.min-amount.result ≤ moved_sum c.args.rule (number + 1) c.args.least.now c.args.widths.now = c.number_below-found.ensures.enough in
    omega arith

pub returns-clause-taken : goal.returns-clause-taken
returns-clause-taken c =
    let number : ℕ = c.number_below-found.result.number in
    let first = c.take_each.new.widths in
    let sizes = c.take_in_order-last.new.widths in
    let next_is : c.next.result ≡ next_of c.args.rule number = c.next.ensures in
    let At : ℕ → Type 0 = λ (k : ℕ). IsMovedInOrder (place_of c.args.order (length first)) (λ (i : ℕ). 0) (λ (i : ℕ). moved c.args.rule k (get_or first i 0) (get_or c.args.least.now i 0)) (λ (i : ℕ). get_or first i 0 - get_or sizes i 0) (length first) c.take_in_order-last.result in
    let moved_is : c.number_below-found.result.moved ≡ moved_sum c.args.rule number c.args.least.now c.args.widths.now = c.number_below-found.ensures.moved in
    let less : c.number_below-found.result.moved < c.min-amount.result = c.number_below-found.ensures.too_little in
    let room_is : c.moved_in_all-room.result ≡ moved_sum c.args.rule (2 ^ 64) c.args.least.now c.args.widths.now = c.moved_in_all-room.ensures in
    let amount_is : c.min-amount.result ≡ min c.moved_in_all-room.result c.args.by = c.min-amount.ensures in
    let amount : amount_of c.args.rule c.args.least.now c.args.by c.args.widths.now ≡ min c.args.by (moved_sum c.args.rule (2 ^ 64) c.args.least.now c.args.widths.now) = refl in
    taken-well c.args.rule c.args.order number c.args.least.now c.args.by c.args.widths.now first sizes c.take_in_order-last.result (c.min-amount.result - c.number_below-found.result.moved) c.requires.takes c.take_each.auto.widths
    c.take_each.ensures (subst At next_is c.take_in_order-last.ensures.moved) c.take_in_order-last.ensures.lower c.take_in_order-last.ensures.sums (omega arith)
