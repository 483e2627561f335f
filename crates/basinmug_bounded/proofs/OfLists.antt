-- A list that is text, and one that is none.
use Rattle.std.proofs.Common.{◌≡◌, ℕ, Bool, true, false, List, [], ◌∷◌, Option, None, ap, length, refl, subst, if◌then◌else◌}
use Rattle.std.specs.Prelude.{IsUtf8, MatchBool, ⊤, ◌==◌}
use Rattle.std.specs.Str.{is_utf8}
use Rattle.std.proofs.lemmas.Str.{IsUtf8-from_is_utf8, is_utf8-from_IsUtf8}
use Rattle.basinmug_bounded.specs.Lists.{list_in}

clash : true ≡ false → ⊥
clash is = subst (λ (b : Bool). MatchBool b ⊤ ⊥) is tt

pub list-text : {T : Type 0} (read : List ℕ → Option (List T)) (list : List ℕ) → (length list == 0) ≡ false → IsUtf8 list → list_in read list ≡ read list
list-text read [] some text = absurd (clash some)
list-text read (byte ∷ rest) some text = ap (λ (b : Bool). if b then read (byte ∷ rest) else None) (is_utf8-from_IsUtf8 (byte ∷ rest) text)

pub list-no_text : {T : Type 0} (read : List ℕ → Option (List T)) (list : List ℕ) → (length list == 0) ≡ false → (IsUtf8 list → ⊥) → list_in read list ≡ None
list-no_text read [] some refuses = absurd (clash some)
list-no_text {T} read (byte ∷ rest) some refuses = by (is_utf8 (byte ∷ rest)) refl
  where
    by : (b : Bool) → is_utf8 (byte ∷ rest) ≡ b → (if b then read (byte ∷ rest) else None) ≡ None
    by true e = absurd (refuses (IsUtf8-from_is_utf8 (byte ∷ rest) e))
    by false e = refl
