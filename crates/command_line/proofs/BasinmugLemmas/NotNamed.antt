-- Names that are not in a table.
use Rattle.std.proofs.Common.{◌≡◌, ◌∙◌, ap, refl, ℕ, Bool, true, false, cond, List, [], ◌∷◌, Some}
use Rattle.std.specs.Prelude.{find}
use Rattle.std.specs.List.{AllByRecursion}
use Rattle.std.specs.Option.{option_map_or}
use Rattle.std.specs.Str.{bytes_eq}
use Rattle.command_line.specs.Options.Names.{named}

abbrev pub AllOther : {T : Type 0} → List ℕ → List (List ℕ × T) → Type 0
AllOther name rows = AllByRecursion (λ row. bytes_eq row.0 name ≡ false) rows

none-found : {T : Type 0} (default : T) (rows : List (List ℕ × T)) (name : List ℕ) → AllOther name rows
    → option_map_or (λ (row : List ℕ × T). row.1) (find (λ (row : List ℕ × T). bytes_eq row.0 name) rows) default ≡ default
none-found default [] name all = refl
none-found {T} default (row ∷ rows) name all =
    ap (λ (b : Bool). option_map_or (λ (found : List ℕ × T). found.1) (cond b (Some row) (find (λ (other : List ℕ × T). bytes_eq other.0 name) rows)) default) all.0
    ∙ none-found default rows name all.1

-- a name that is the first of a table or none of it means the default, which is beside the first
pub first_or_none : {T : Type 0} (first : List ℕ) (default : T) (rows : List (List ℕ × T)) (name : List ℕ) → AllOther name rows
    → named ((first, default) ∷ rows) default (Some name) ≡ default
first_or_none {T} first default rows name all = by (bytes_eq first name)
  where
    by : (b : Bool) → option_map_or (λ (found : List ℕ × T). found.1) (cond b (Some (first, default)) (find (λ (other : List ℕ × T). bytes_eq other.0 name) rows)) default ≡ default
    by true = refl
    by false = none-found default rows name all
