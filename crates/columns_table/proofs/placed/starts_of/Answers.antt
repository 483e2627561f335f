use Rattle.std.proofs.Common.{◌≡◌, ◌≢◌, ℕ, slice_set, ◌+◌, ◌<◌, get_or, length, nat_lt, Bool, true, false, sum, take, sym, ap, ◌∙◌, refl, arith}
use Rattle.std.proofs.lemmas.Bool.Decides.{nat_tests}
use Rattle.std.proofs.lemmas.Grind.{get_or_default_zero}
use Rattle.std.proofs.lemmas.List.{get_or-set_other, get_or-set_same, length-set}
use Rattle.std.proofs.lemmas.List.Sums.{sum_by_more, sum_by_more_le}
use Rattle.columns_table.proofs.PlacedRows.{starts-are}
use Rattle.columns_table.proofs.placed.starts_of.Goals as goal

pub overflow_add-start : goal.overflow_add-start
overflow_add-start c =
    let counts = c.args.counts.items in
    let i = c.loop-i.i in
    let inside : i < length counts = omega (arith, c.loop-i-test.true, c.len-i-end.ensures, c.args.counts.ok.0) in
    let within : i < length c.loop-i.counts.items = omega (arith, inside, c.loop-i.invariant.long) in
    let here : c.index-count.result.now ≡ get_or counts i 0 = c.index-count.ensures ∙ get_or_default_zero c.loop-i.counts.items i _ within ∙ c.loop-i.invariant.same i (omega arith) in
    omega (arith, here, c.loop-i.invariant.start, sum_by_more_le (λ n. n) counts i 0 inside, c.requires)

pub loop-i-preserved : goal.loop-i-preserved
loop-i-preserved c =
    let counts = c.args.counts.items in
    let i = c.loop-i.i in
    let now = c.loop-i.counts.items in
    let inside : i < length counts = omega (arith, c.loop-i-test.true, c.len-i-end.ensures, c.args.counts.ok.0) in
    let within : i < length now = omega (arith, inside, c.loop-i.invariant.long) in
    let here : c.index-count.result.now ≡ get_or counts i 0 = c.index-count.ensures ∙ get_or_default_zero now i _ within ∙ c.loop-i.invariant.same i (omega arith) in
    record {
      long = length-set now i c.loop-i.start ∙ c.loop-i.invariant.long;
      done = λ k below. step k below (nat_lt k i) refl;
      same = λ k past.
          let other : k ≢ i = λ e. omega (arith, e, past) in
          get_or-set_other now i k c.loop-i.start 0 other ∙ c.loop-i.invariant.same k (omega (arith, past));
      start = omega (arith, here, c.loop-i.invariant.start, sum_by_more (λ n. n) counts i 0 inside);
    }
  where
    step : (k : ℕ) → k < c.loop-i.i + 1 → (b : Bool) → nat_lt k c.loop-i.i ≡ b → get_or (slice_set c.loop-i.counts.items c.loop-i.i c.loop-i.start) k 0 ≡ sum (take k c.args.counts.items)
    step k below true e =
        let before : k < c.loop-i.i = grind (arith, nat_tests, e) in
        let other : k ≢ c.loop-i.i = λ same. omega (arith, same, before) in
        get_or-set_other c.loop-i.counts.items c.loop-i.i k c.loop-i.start 0 other ∙ c.loop-i.invariant.done k before
    step k below false e =
        let last : k ≡ c.loop-i.i = grind (arith, nat_tests, e, below) in
        let within : c.loop-i.i < length c.loop-i.counts.items = omega (arith, c.loop-i-test.true, c.len-i-end.ensures, c.args.counts.ok.0, c.loop-i.invariant.long) in
        ap (λ m. get_or (slice_set c.loop-i.counts.items c.loop-i.i c.loop-i.start) m 0) last
        ∙ get_or-set_same c.loop-i.counts.items c.loop-i.i c.loop-i.start 0 within ∙ c.loop-i.invariant.start ∙ ap (λ m. sum (take m c.args.counts.items)) (sym last)

pub returns : goal.returns
returns c =
    let counts = c.args.counts.items in
    starts-are counts c.loop-i.counts.items c.loop-i.invariant.long
    (λ k below. c.loop-i.invariant.done k (omega (arith, below, c.loop-i-test.false, c.len-i-end.ensures, c.args.counts.ok.0)))
