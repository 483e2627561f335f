-- The lines of a text, pushed one after the other.
use Rattle.std.proofs.Common.{◌≡◌, ◌∙◌, ap, sym, ℕ, List, [], ◌∷◌, ◌++◌, append_assoc, map}
use Rattle.std.specs.Prelude.{string_bytes}
use Rattle.std.specs.declared.alloc.Global.{Global}
use Rattle.std.specs.declared.string.String.{String}
use Rattle.std.proofs.lemmas.List.{map-append}

-- the next line, of those that are left, is pushed
pub line-pushed : (items new : List (String Global)) (made : String Global) (line : List ℕ) (left rest all : List (List ℕ)) → new ≡ items ++ made ∷ [] → string_bytes made ≡ line → left ≡ line ∷ rest
    → map string_bytes items ++ left ≡ all → map string_bytes new ++ rest ≡ all
line-pushed items new made line left rest all pushed is come so_far =
    ap (λ (it : List (List ℕ)). it ++ rest) (ap (map string_bytes) pushed ∙ map-append string_bytes items (made ∷ []) ∙ ap (λ (text : List ℕ). map string_bytes items ++ text ∷ []) is)
    ∙ append_assoc (map string_bytes items) (line ∷ []) rest
    ∙ ap (λ (lines : List (List ℕ)). map string_bytes items ++ lines) (sym come) ∙ so_far
