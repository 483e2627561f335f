-- The greatest and the smallest of numbers that are counted one after the other.
use Rattle.std.proofs.Common.{◌≡◌, ◌∙◌, ◌+◌, ◌<◌, ℕ, zero, suc, List, ap, arith, map, max, min, sym}
use Rattle.std.specs.List.{range_with_len}
use Rattle.ansi_scan.proofs.Existence.{ArePiecesOf-pieces}
use Rattle.ansi_scan.specs.Pieces.{pieces}
use Rattle.grid_records_estimate.specs.Estimates.{greatest, smallest}
use Rattle.grid_records_measure.specs.TextLines.{text_height}
use Rattle.grid_records_traits.specs.Cells.{HasLineCount}

pub counts_lines : (text : List ℕ) (count : ℕ) → HasLineCount text count → count ≡ text_height text
unfolding text_height
counts_lines text count counts = counts (pieces text) (ArePiecesOf-pieces text)

greatest_more : (f : ℕ → ℕ) (a n : ℕ) → greatest (map f (range_with_len a (suc n))) ≡ max (greatest (map f (range_with_len a n))) (f (a + n))
greatest_more f a zero =
    let here : f (a + 0) ≡ f a = ap f (omega arith) in
    rw here (omega arith)
greatest_more f a (suc n) =
    let here : f (a + 1 + n) ≡ f (a + suc n) = ap f (omega arith) in
    let later : greatest (map f (range_with_len (a + 1) (suc n))) ≡ max (greatest (map f (range_with_len (a + 1) n))) (f (a + 1 + n)) = greatest_more f (a + 1) n in
    ap (λ m. max (f a) m) later ∙ omega (arith, here)

-- one number more
pub greatest_next : (f : ℕ → ℕ) (n : ℕ) → greatest (map f (range_with_len 0 (n + 1))) ≡ max (greatest (map f (range_with_len 0 n))) (f n)
greatest_next f n =
    let count : n + 1 ≡ suc n = omega arith in
    let here : f (0 + n) ≡ f n = ap f (omega arith) in
    rw count (greatest_more f 0 n ∙ ap (λ m. max (greatest (map f (range_with_len 0 n))) m) here)

smallest_more : (f : ℕ → ℕ) (a n : ℕ) → smallest (map f (range_with_len a (suc (suc n)))) ≡ min (smallest (map f (range_with_len a (suc n)))) (f (a + suc n))
smallest_more f a zero =
    let here : f (a + 1) ≡ f (a + suc zero) = ap f (omega arith) in
    ap (λ m. min (f a) m) here
smallest_more f a (suc n) =
    let here : f (a + 1 + suc n) ≡ f (a + suc (suc n)) = ap f (omega arith) in
    let later : smallest (map f (range_with_len (a + 1) (suc (suc n)))) ≡ min (smallest (map f (range_with_len (a + 1) (suc n)))) (f (a + 1 + suc n)) = smallest_more f (a + 1) n in
    ap (λ m. min (f a) m) later ∙ omega (arith, here)

pub smallest_next : (f : ℕ → ℕ) (n : ℕ) → 0 < n → smallest (map f (range_with_len 0 (n + 1))) ≡ min (smallest (map f (range_with_len 0 n))) (f n)
smallest_next f zero some = absurd (omega (arith, some))
smallest_next f (suc n) some =
    let count : suc n + 1 ≡ suc (suc n) = omega arith in
    let here : f (0 + suc n) ≡ f (suc n) = ap f (omega arith) in
    rw count (smallest_more f 0 n ∙ ap (λ m. min (smallest (map f (range_with_len 0 (suc n)))) m) here)

pub one_more : (f : ℕ → ℕ) (n most after here : ℕ) → most ≡ greatest (map f (range_with_len 0 n)) → here ≡ f n → after ≡ max most here → after ≡ greatest (map f (range_with_len 0 (n + 1)))
one_more f n most after here so_far is step =
    step ∙ ap (λ m. max m here) so_far ∙ ap (λ m. max (greatest (map f (range_with_len 0 n))) m) is ∙ sym (greatest_next f n)

pub one_fewer : (f : ℕ → ℕ) (n : ℕ) → 0 < n → (fewest after here : ℕ) → fewest ≡ smallest (map f (range_with_len 0 n)) → here ≡ f n → after ≡ min fewest here → after ≡ smallest (map f (range_with_len 0 (n + 1)))
one_fewer f n some fewest after here so_far is step =
    step ∙ ap (λ m. min m here) so_far ∙ ap (λ m. min (smallest (map f (range_with_len 0 n))) m) is ∙ sym (smallest_next f n some)
