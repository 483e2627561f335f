-- Names that are not in a table.
use Rattle.std.proofs.Common.{◌≡◌, ◌∙◌, ap, sym, refl, ℕ, Bool, true, false, cond, List, [], ◌∷◌, None, Some}
use Rattle.std.specs.Prelude.{find}
use Rattle.std.specs.List.{AllByRecursion}
use Rattle.std.specs.Option.{option_map}
use Rattle.std.specs.Str.{bytes_eq}
use Rattle.std.proofs.lemmas.Slice.Eq.{bytes_eq-Decides}
use Rattle.grid_config.specs.Ansi.Colors.{Color}

pub apart : (name word : List ℕ) → (name ≡ word → ⊥) → bytes_eq word name ≡ false
apart name word other = by (bytes_eq word name) refl
  where
    by : (b : Bool) → bytes_eq word name ≡ b → bytes_eq word name ≡ false
    by true e = absurd (other (sym ((bytes_eq-Decides word name).0 e)))
    by false e = e

pub none-found : (rows : List (List ℕ × Color)) (name : List ℕ) → AllByRecursion (λ (row : List ℕ × Color). bytes_eq row.0 name ≡ false) rows
    → option_map (λ (row : List ℕ × Color). row.1) (find (λ (row : List ℕ × Color). bytes_eq row.0 name) rows) ≡ None
none-found [] name all = refl
none-found (row ∷ rows) name all =
    ap (λ (b : Bool). option_map (λ (found : List ℕ × Color). found.1) (cond b (Some row) (find (λ (other : List ℕ × Color). bytes_eq other.0 name) rows))) all.0
    ∙ none-found rows name all.1
