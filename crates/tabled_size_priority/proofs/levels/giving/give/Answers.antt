use Rattle.std.proofs.Common.{◌≡◌, ◌≢◌, ◌≤◌, ◌<◌, ◌+◌, ◌-◌, ◌^◌, ℕ, [], length, sum, get_or, min, arith, ap, refl, subst}
use Rattle.tabled_size_priority.specs.LevelRules.Moving.{moved, moved_sum, next_of, amount_of, place_of, IsMovedInOrder}
use Rattle.tabled_size_priority.specs.LevelRules.Passes.{none-moved, first-given, given-enough, given-well}
use Rattle.tabled_size_priority.proofs.levels.giving.give.Goals as goal

pub number_below-found-requires-clause-some : goal.number_below-found-requires-clause-some
number_below-found-requires-clause-some c =
    let none : moved_sum c.args.rule 0 [] c.args.widths.now ≡ 0 = none-moved c.args.rule [] c.args.widths.now (let fits : sum c.args.widths.now + c.args.by < 2 ^ 64 = c.requires.range in omega arith) in
    let some : c.min-amount.result ≢ 0 = c.if-amount-eq0.false in
    omega arith

pub give_in_order-last-requires-clause-enough : goal.give_in_order-last-requires-clause-enough
give_in_order-last-requires-clause-enough c =
    let number : ℕ = c.number_below-found.result.number in
    let next_is : c.next.result ≡ next_of c.args.rule number = c.next.ensures in
    let together : moved_sum c.args.rule number [] c.args.widths.now + moved_sum c.args.rule (next_of c.args.rule number) [] c.give_each.new.widths
    ≡ moved_sum c.args.rule (number + 1) [] c.args.widths.now =
    given-enough c.args.rule number c.args.widths.now c.give_each.new.widths c.requires.gives c.give_each.auto.widths c.give_each.ensures in
    let at_next : moved_sum c.args.rule c.next.result [] c.give_each.new.widths ≡ moved_sum c.args.rule (next_of c.args.rule number) [] c.give_each.new.widths =
    ap (λ (k : ℕ). moved_sum c.args.rule k [] c.give_each.new.widths) next_is in
    let moved_is : c.number_below-found.result.moved ≡ moved_sum c.args.rule number [] c.args.widths.now = c.number_below-found.ensures.moved in
    let enough : c.min-amount.result ≤ moved_sum c.args.rule (number + 1) [] c.args.widths.now = c.number_below-found.ensures.enough in
    omega arith

pub returns-clause-given : goal.returns-clause-given
returns-clause-given c =
    let number : ℕ = c.number_below-found.result.number in
    let first = c.give_each.new.widths in
    let sizes = c.give_in_order-last.new.widths in
    let next_is : c.next.result ≡ next_of c.args.rule number = c.next.ensures in
    let At : ℕ → Type 0 = λ (k : ℕ). IsMovedInOrder (place_of c.args.order (length first)) (λ (i : ℕ). 0) (λ (i : ℕ). moved c.args.rule k (get_or first i 0) 0) (λ (i : ℕ). get_or sizes i 0 - get_or first i 0) (length first) c.give_in_order-last.result in
    let moved_is : c.number_below-found.result.moved ≡ moved_sum c.args.rule number [] c.args.widths.now = c.number_below-found.ensures.moved in
    let less : c.number_below-found.result.moved < c.min-amount.result = c.number_below-found.ensures.too_little in
    let room_is : c.moved_in_all-room.result ≡ moved_sum c.args.rule (2 ^ 64) [] c.args.widths.now = c.moved_in_all-room.ensures in
    let amount_is : c.min-amount.result ≡ min c.moved_in_all-room.result c.args.by = c.min-amount.ensures in
    let amount : amount_of c.args.rule [] c.args.by c.args.widths.now ≡ min c.args.by (moved_sum c.args.rule (2 ^ 64) [] c.args.widths.now) = refl in
    given-well c.args.rule c.args.order number c.args.by c.args.widths.now first sizes c.give_in_order-last.result (c.min-amount.result - c.number_below-found.result.moved) c.requires.gives c.give_each.auto.widths
    c.give_each.ensures (subst At next_is c.give_in_order-last.ensures.moved) c.give_in_order-last.ensures.higher c.give_in_order-last.ensures.sums (omega arith)

pub give_in_order-last-requires-clause-range : goal.give_in_order-last-requires-clause-range
give_in_order-last-requires-clause-range c =
    let number : ℕ = c.number_below-found.result.number in
    let first : sum c.give_each.new.widths ≡ sum c.args.widths.now + moved_sum c.args.rule number [] c.args.widths.now = first-given c.args.rule number c.args.widths.now c.give_each.new.widths c.give_each.auto.widths c.give_each.ensures in
    let moved_is : c.number_below-found.result.moved ≡ moved_sum c.args.rule number [] c.args.widths.now = c.number_below-found.ensures.moved in
    let less : c.number_below-found.result.moved < c.min-amount.result = c.number_below-found.ensures.too_little in
    let amount_is : c.min-amount.result ≡ min c.moved_in_all-room.result c.args.by = c.min-amount.ensures in
    let fits : sum c.args.widths.now + c.args.by < 2 ^ 64 = c.requires.range in
    omega arith
