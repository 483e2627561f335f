use Rattle.std.proofs.Common.{◌≡◌, ℕ, ◌+◌, ◌-◌, ◌≤◌, List, ◌++◌, drop, take, length, length-drop, ap, sym, ◌∙◌, arith}
use Rattle.std.specs.Simd.Lanes.{chunk}
use Rattle.std.proofs.lemmas.List.{take-append-drop, take-take, take_all}
use Rattle.std.proofs.lemmas.Simd.{length-chunk, length-put_chunk, take_more_put_chunk}
use lib.Lanes.{put_chunk}
use Rattle.papergrid_cells.proofs.copies.copy_ends.Goals as goal

-- the first n bytes and the last n, put over as many, are all
both-ends : (to from : List ℕ) (n last : ℕ) → length to ≡ length from → last + n ≡ length from → last ≤ n → put_chunk last (put_chunk 0 to (chunk 0 n from)) (chunk last n from) ≡ from
both-ends to from n last same ends most =
    let first = chunk 0 n from in
    let put = put_chunk 0 to first in
    let behind = chunk last n from in
    let first-long : length first ≡ n = length-chunk 0 n from (omega (arith, ends)) in
    let behind-long : length behind ≡ n = length-chunk last n from (omega (arith, ends)) in
    let put-long : length put ≡ length from = length-put_chunk 0 to first ∙ same in
    let whole : length (put_chunk last put behind) ≡ length from = length-put_chunk last put behind ∙ put-long in
    let all : take (length from) (put_chunk last put behind) ≡ put_chunk last put behind = take_all (length from) (put_chunk last put behind) (omega (arith, whole)) in
    let front : take n put ≡ take n from = take_more_put_chunk 0 to first n (omega (arith, first-long)) (omega (arith, same, ends)) in
    let left : drop last from ≡ behind = sym (take_all n (drop last from) (omega (arith, ends, length-drop last from))) in
    sym all
    ∙ take_more_put_chunk last put behind (length from) (omega (arith, ends, behind-long)) (omega (arith, put-long))
    ∙ ap (λ (l : List ℕ). l ++ behind) (sym (take-take last n put most) ∙ ap (take last) front ∙ take-take last n from most)
    ∙ ap (λ (l : List ℕ). take last from ++ l) (sym left)
    ∙ take-append-drop last from

pub returns : goal.returns
returns g c = both-ends c.args.to.now c.args.from.now g.row.N (length c.args.from.now - g.row.N) c.requires.same (omega (arith, c.requires.least)) (omega (arith, c.requires.most, c.requires.least))
