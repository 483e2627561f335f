use Rattle.std.proofs.Common.{◌≡◌, ◌≤◌, ◌*◌, ◌^◌, ℕ, ◌+◌, map, sum, get_or, arith, ap, ◌∙◌}
use Rattle.std.proofs.lemmas.List.FromFn.{sum_by-map-range_with_len_more}
use Rattle.std.specs.List.{range_with_len}
use Rattle.tabled_size_priority.specs.LevelRules.Moving.{moved}
use Rattle.tabled_size_priority.specs.LevelRules.Steps.{moved-limit}
use Rattle.tabled_size_priority.proofs.levels.amounts.moved_in_all.Goals as goal

pub overflow_add-sum : goal.overflow_add-sum
overflow_add-sum c =
    let column : ℕ = c.loop-column.column in
    let there : c.moved-sum.result ≤ 2 ^ 64 = rw c.moved-sum.ensures (moved-limit c.args.rule c.args.number (get_or c.args.widths.now column 0) c.least_at.result c.requires (let fits = c.type_inv.widths column in omega arith)) in
    let sum_fits : c.loop-column.sum ≤ column * 2 ^ 64 = c.loop-column.invariant.fits in
    omega arith

pub loop-column-preserved : goal.loop-column-preserved
loop-column-preserved c =
    let column : ℕ = c.loop-column.column in
    let there : c.moved-sum.result ≤ 2 ^ 64 = rw c.moved-sum.ensures (moved-limit c.args.rule c.args.number (get_or c.args.widths.now column 0) c.least_at.result c.requires (let fits = c.type_inv.widths column in omega arith)) in
    let f : ℕ → ℕ = λ (i : ℕ). moved c.args.rule c.args.number (get_or c.args.widths.now i 0) (get_or c.args.least.now i 0) in
    let more : sum (map f (range_with_len 0 (column + 1))) ≡ sum (map f (range_with_len 0 column)) + f column = sum_by-map-range_with_len_more (λ (x : ℕ). x) f 0 column column (omega arith) in
    let here : c.moved-sum.result ≡ f column = c.moved-sum.ensures ∙ ap (λ (l : ℕ). moved c.args.rule c.args.number (get_or c.args.widths.now column 0) l) c.least_at.ensures in
    record { is_sum = omega arith; fits = omega arith }
