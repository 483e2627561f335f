-- The bytes of a text that are taken out, written over and put back.
use Rattle.std.proofs.Common.{◌≡◌, ◌++◌, ℕ, [], List, drop, take, length, ap, ◌∙◌, append-nil, arith}
use Rattle.std.proofs.lemmas.List.{drop_all, take_all}

-- bytes that are written back whole
pub written-back : (len : ℕ) (new items : List ℕ) → length new ≡ length items → len ≡ length items → take len (new ++ drop (length new) items) ≡ new
written-back len new items same counted =
    let none : drop (length new) items ≡ [] = drop_all (length new) items (omega (arith, same)) in
    ap (λ (l : List ℕ). take len (new ++ l)) none ∙ ap (take len) (append-nil new) ∙ take_all len new (omega (arith, same, counted))
