use Rattle.std.proofs.Common.{◌≡◌, ℕ, ◌+◌, map, sum, take, get_or, arith}
use Rattle.std.proofs.lemmas.Grind.{common_steps}
use Rattle.std.proofs.lemmas.List.FromFn.{sum_by-map-range_with_len_more}
use Rattle.std.specs.List.{range_with_len}
use Rattle.tabled_size_priority.specs.Shrinking.{gap_of}
use Rattle.tabled_size_priority.proofs.peaker.room.Goals as goal

pub loop-column-preserved : goal.loop-column-preserved
loop-column-preserved c =
    let column : ℕ = c.loop-column.column in
    let gap : ℕ → ℕ = gap_of c.args.least.now c.args.widths.now in
    let room : sum (map gap (range_with_len 0 (column + 1))) ≡ sum (map gap (range_with_len 0 column)) + gap column = sum_by-map-range_with_len_more (λ (x : ℕ). x) gap 0 column column (omega arith) in
    let widths : sum (take (column + 1) c.args.widths.now) ≡ sum (take column c.args.widths.now) + get_or c.args.widths.now column 0 = grind (arith, common_steps) in
    record { is_room = omega arith; fits = omega arith }
