use Rattle.std.proofs.Common.{◌≡◌, ◌≤◌, ◌<◌, ◌+◌, ◌-◌, ℕ, length, sum, get_or, set, arith, ap, sym, ◌∙◌, inl, inr}
use Rattle.tabled_size_priority.specs.LevelRules.Moving.{moved, moved_sum, place_of}
use Rattle.tabled_size_priority.specs.LevelRules.Lists.{sum-set}
use Rattle.tabled_size_priority.specs.LevelRules.Steps.{one-done, order-placing, place-inside, all-taken, taken-limit}
use Rattle.tabled_size_priority.proofs.levels.taking.take_in_order.Goals as goal

pub loop-place-preserved : goal.loop-place-preserved
loop-place-preserved c =
    let n : ℕ = length c.args.widths.now in
    let place : ℕ → ℕ = place_of c.args.order n in
    let q : ℕ = c.column_at-column.result in
    let amount : ℕ → ℕ = λ (i : ℕ). moved c.args.rule c.args.number (get_or c.args.widths.now i 0) (get_or c.args.least.now i 0) in
    let size : length c.loop-place.widths ≡ n = c.loop-place.auto.widths in
    let below : q < length c.loop-place.widths = c.column_at-column.ensures.inside in
    let inside : q < n = omega arith in
    let at : place q ≡ c.loop-place.place = sym (ap (λ (m : ℕ). place_of c.args.order m q) size) ∙ c.column_at-column.ensures.at in
    let same : get_or c.loop-place.widths q 0 ≡ get_or c.args.widths.now q 0 = elim (c.loop-place.invariant.done q inside) [
      | inl never ↦ absurd (let earlier : place q < c.loop-place.place = never.0 in omega arith)
      | inr is ↦ is.1
    ] in
    let most : c.moved-most.result ≡ amount q =
    c.moved-most.ensures ∙ ap (λ (w : ℕ). moved c.args.rule c.args.number w c.least_at.result) same ∙ ap (λ (l : ℕ). moved c.args.rule c.args.number (get_or c.args.widths.now q 0) l) c.least_at.ensures in
    let limit : amount q ≤ get_or c.args.widths.now q 0 - get_or c.args.least.now q 0 = taken-limit c.args.rule c.requires.takes c.args.number (get_or c.args.widths.now q 0) (get_or c.args.least.now q 0) in
    let v : ℕ = get_or c.loop-place.widths q 0 - c.moved-most.result in
    let total : sum (set c.loop-place.widths q v) + get_or c.loop-place.widths q 0 ≡ sum c.loop-place.widths + v = sum-set c.loop-place.widths q v below in
    let so_far : sum c.loop-place.widths + c.args.amount ≡ sum c.args.widths.now + c.loop-place.left = c.loop-place.invariant.sums in
    record {
      done = one-done place (λ (i : ℕ). get_or c.args.widths.now i 0) (λ (i : ℕ). get_or c.args.widths.now i 0 - amount i) n c.loop-place.place c.loop-place.widths q v
          (order-placing c.args.order n c.requires.begins) inside below at (omega arith) c.loop-place.invariant.done;
      sums = omega arith;
      some = omega arith;
    }

pub unreachable-requires : goal.unreachable-requires
unreachable-requires c =
    let n : ℕ = length c.args.widths.now in
    let amount : ℕ → ℕ = λ (i : ℕ). moved c.args.rule c.args.number (get_or c.args.widths.now i 0) (get_or c.args.least.now i 0) in
    let ended : n ≤ c.loop-place.place = c.loop-place-test.false in
    let all : sum c.loop-place.widths + moved_sum c.args.rule c.args.number c.args.least.now c.args.widths.now ≡ sum c.args.widths.now =
    all-taken (place_of c.args.order n) amount c.args.widths.now c.loop-place.widths c.loop-place.place c.loop-place.auto.widths
    (λ i below. let inside : place_of c.args.order n i < n = place-inside c.args.order n i c.requires.begins below in omega arith)
    (λ i. let limit : amount i ≤ get_or c.args.widths.now i 0 - get_or c.args.least.now i 0 = taken-limit c.args.rule c.requires.takes c.args.number (get_or c.args.widths.now i 0) (get_or c.args.least.now i 0) in omega arith)
    c.loop-place.invariant.done in
    let so_far : sum c.loop-place.widths + c.args.amount ≡ sum c.args.widths.now + c.loop-place.left = c.loop-place.invariant.sums in
    let some : 0 < c.loop-place.left = c.loop-place.invariant.some in
    let enough : c.args.amount ≤ moved_sum c.args.rule c.args.number c.args.least.now c.args.widths.now = c.requires.enough in
    omega arith
