-- One more was appended.
use Rattle.std.proofs.Common.{◌≡◌, ℕ, zero, suc, ◌+◌, List, [], ◌∷◌, ◌∙◌, ◌++◌, ap, sym, arith, append_assoc, append-nil, encode_utf8_all, string_bytes}
use Rattle.std.specs.Prelude.{encode_utf8}
use Rattle.std.specs.List.{repeat}
use Rattle.tabled_width_texts.proofs.filling.push_each.Goals as goal

repeat-behind : (n : ℕ) (xs : List ℕ) → repeat n xs ++ xs ≡ repeat (suc n) xs
repeat-behind zero xs = sym (append-nil xs)
repeat-behind (suc n) xs = append_assoc xs (repeat n xs) xs ∙ ap (λ (ys : List ℕ). xs ++ ys) (repeat-behind n xs)

pub loop-preserved : goal.loop-preserved
loop-preserved c =
    let before = string_bytes c.args.out.now in
    let n = c.loop.counter in
    let one : List ℕ = encode_utf8_all (c.args.c ∷ []) in
    let more : suc n ≡ n + 1 = omega arith in
    c.in_ok-push.ensures.bytes
    ∙ ap (λ (bytes : List ℕ). string_bytes c.loop.out ++ bytes) (sym (append-nil (encode_utf8 c.args.c)))
    ∙ ap (λ (bytes : List ℕ). bytes ++ one) c.loop.invariant
    ∙ append_assoc before (repeat n one) one
    ∙ ap (λ (bytes : List ℕ). before ++ bytes) (repeat-behind n one ∙ ap (λ k. repeat k one) more)
