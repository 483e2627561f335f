use Rattle.std.proofs.Common.{◌≡◌, ◌≤◌, ◌<◌, ◌+◌, ◌-◌, ◌*◌, ◌/◌, ◌^◌, ℕ, suc, arith, ap, refl, sym, ◌∙◌, inl, inr}
use Rattle.std.proofs.Math.Nat.{pow-succ'}
use Rattle.std.proofs.lemmas.Bool.{cases_lt}
use Rattle.tabled_size_priority.specs.LevelRules.Moving.{moved_sum}
use Rattle.tabled_size_priority.proofs.levels.search.number_below.Goals as goal
use Rattle.tabled_size_priority.proofs.levels.search.number_below.Goals.{then-there-amount, else-there-amount}

-- half of a range, and one halving less
half-near : (low high middle k j : ℕ) → j ≡ suc k → middle ≡ low + (high - low) / 2 → low ≤ high → high ≤ low + 2 ^ j → (middle ≤ low + 2 ^ k) × (high ≤ middle + 2 ^ k)
half-near low high middle k j is half ordered near =
    let twice : 2 ^ j ≡ 2 * 2 ^ k = ap (λ (e : ℕ). 2 ^ e) is ∙ pow-succ' 2 k in
    (omega arith, omega arith)

pub loop-preserved : goal.loop-preserved
loop-preserved c =
    let low : ℕ = c.loop.low in
    let high : ℕ = c.loop.high in
    let middle : ℕ = low + (high - low) / 2 in
    let walked = c.loop-test.true in
    let below : low < high = c.loop.invariant.below in
    let within : high ≤ 2 ^ 64 = c.loop.invariant.within in
    let near : high ≤ low + 2 ^ (64 - c.loop.counter) = c.loop.invariant.near in
    let half : (middle ≤ low + 2 ^ (64 - (c.loop.counter + 1))) × (high ≤ middle + 2 ^ (64 - (c.loop.counter + 1))) = half-near low high middle (64 - (c.loop.counter + 1)) (64 - c.loop.counter) (omega arith) refl (omega arith) near in
    let counted : c.loop.walks ≡ c.loop.counter + 1 = c.loop.invariant.counted in
    let there : c.moved_in_all-there.result ≡ moved_sum c.args.rule middle c.args.least.now c.args.widths.now = c.moved_in_all-there.ensures in
    let first_half : middle ≤ low + 2 ^ (64 - (c.loop.counter + 1)) = half.0 in
    let second_half : high ≤ middle + 2 ^ (64 - (c.loop.counter + 1)) = half.1 in
    elim c.if-there-amount.branch [
      | then-there-amount w ↦
          let less : c.moved_in_all-there.result < c.args.amount = w.if-there-amount.true in
          let enough : c.args.amount ≤ moved_sum c.args.rule high c.args.least.now c.args.widths.now = c.loop.invariant.enough in
          let low_is : c.if-there-amount.low ≡ middle = w.low-is in
          let high_is : c.if-there-amount.high ≡ high = w.high-is in
          let moved_is : c.if-there-amount.moved ≡ c.moved_in_all-there.result = w.moved-is in
          let At : ℕ → ℕ = λ (k : ℕ). moved_sum c.args.rule k c.args.least.now c.args.widths.now in
          record {
            below = omega arith;
            near = omega arith;
            within = omega arith;
            moved_is = moved_is ∙ there ∙ sym (ap At low_is);
            too_little = omega arith;
            enough = rw high_is enough;
            counted = omega arith;
          }
      | else-there-amount w ↦
          let not_less : c.args.amount ≤ c.moved_in_all-there.result = w.if-there-amount.false in
          let low_is : c.if-there-amount.low ≡ low = w.low-is in
          let high_is : c.if-there-amount.high ≡ middle = w.high-is in
          let moved_is : c.if-there-amount.moved ≡ c.loop.moved = w.moved-is in
          let At : ℕ → ℕ = λ (k : ℕ). moved_sum c.args.rule k c.args.least.now c.args.widths.now in
          let was : c.loop.moved ≡ At low = c.loop.invariant.moved_is in
          let little : c.loop.moved < c.args.amount = c.loop.invariant.too_little in
          let high_sum : At c.if-there-amount.high ≡ At middle = ap At high_is in
          record {
            below = elim (cases_lt low middle) [
              | inl less ↦ omega arith
              | inr not_less_middle ↦ let at_low : At middle ≡ At low = ap At (omega arith) in absurd (omega arith)
            ];
            near = omega arith;
            within = omega arith;
            moved_is = moved_is ∙ was ∙ sym (ap At low_is);
            too_little = omega arith;
            enough = omega arith;
            counted = omega arith;
          }
    ]
