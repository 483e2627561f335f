-- Heads with one more after them.
use Rattle.std.proofs.Common.{◌≡◌, ◌∙◌, sym, refl, subst, ℕ, ◌<◌, List, [], ◌∷◌, ◌++◌, String, Ok, string_bytes, get_or, length, below_more}
use Rattle.std.specs.declared.alloc.Global.{Global}
use Rattle.std.proofs.lemmas.List.{get_or_append_left, get_or_push, length_push}
use Rattle.tabled_expanded.specs.Heads.{Answer, AreHeads}

pub heads_more : (gives : ℕ → Answer → Type 0) (heads : List (List ℕ)) (text : String Global) → AreHeads gives heads → gives (length heads) (Ok text) → AreHeads gives (heads ++ string_bytes text ∷ [])
heads_more gives heads text are is =
    let more = heads ++ string_bytes text ∷ [] in
    let P : ℕ → Type 0 = λ i. (given : String Global) × gives i (Ok given) × (string_bytes given ≡ get_or more i []) in
    let before : (i : ℕ) → i < length heads → P i = λ i below. let it = are i below in (it.0, it.1, it.2 ∙ sym (get_or_append_left heads (string_bytes text ∷ []) [] i below)) in
    let here : P (length heads) = (text, is, sym (get_or_push heads (string_bytes text) [] (length heads) refl)) in
    λ i below. below_more P (length heads) before here i (subst (λ (n : ℕ). i < n) (length_push heads (string_bytes text)) below)
