-- The same bytes appended again and again.
use Rattle.std.proofs.Common.{◌≡◌, ℕ, zero, suc, ◌+◌, List, ◌∙◌, ◌++◌, ap, sym, arith, append_assoc, append-nil}
use Rattle.std.specs.List.{repeat}

repeat-behind : (n : ℕ) (xs : List ℕ) → repeat n xs ++ xs ≡ repeat (suc n) xs
repeat-behind zero xs = sym (append-nil xs)
repeat-behind (suc n) xs = append_assoc xs (repeat n xs) xs ∙ ap (λ (ys : List ℕ). xs ++ ys) (repeat-behind n xs)

-- one more was appended, by its own bytes
pub one-more : (before now one own : List ℕ) (n : ℕ) (next : List ℕ) → one ≡ own → now ≡ before ++ repeat n one → next ≡ now ++ own → next ≡ before ++ repeat (n + 1) one
one-more before now one own n next same so_far appended =
    let more : suc n ≡ n + 1 = omega arith in
    appended ∙ ap (λ (bytes : List ℕ). now ++ bytes) (sym same) ∙ ap (λ (bytes : List ℕ). bytes ++ one) so_far ∙ append_assoc before (repeat n one) one
    ∙ ap (λ (bytes : List ℕ). before ++ bytes) (repeat-behind n one ∙ ap (λ k. repeat k one) more)
