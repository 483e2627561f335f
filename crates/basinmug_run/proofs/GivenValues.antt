-- The last values that are given for columns, where one more is given.
use Rattle.std.proofs.Common.{◌≡◌, ◌∙◌, ap, sym, refl, cond, ℕ, ◌+◌, ◌<◌, Bool, true, false, List, [], ◌∷◌, ◌++◌, Option, None, Some, get_or, length, map, nat_eq, option_map, take, if◌then◌else◌}
use Rattle.std.specs.Borrow.{Bor}
use Rattle.std.specs.HashMap.{HashMap, Updates, get}
use Rattle.std.specs.Option.{option_or}
use Rattle.std.proofs.lemmas.List.{map-append, take_more}
use Rattle.program_options.specs.declared.basinmug.ColumnName.{ColumnName}
use Rattle.basinmug_run.specs.Columns.{given_for, is_number, last_for, value_in}

last-more : {X : Type 0} (given : List (Option ℕ × X)) (number : ℕ) (value : X) (column : ℕ)
    → last_for (given ++ (Some number, value) ∷ []) column ≡ (if nat_eq number column then Some value else last_for given column)
last-more [] number value column = refl
last-more {X} (one ∷ given) number value column =
    ap (λ (found : Option X). option_or found (if is_number one.0 column then Some one.1 else None)) (last-more given number value column)
    ∙ by (nat_eq number column) (last_for given column) (if is_number one.0 column then Some one.1 else None)
  where
    by : (b : Bool) (found here : Option X) → option_or (if b then Some value else found) here ≡ (if b then Some value else option_or found here)
    by true found here = refl
    by false found here = refl

given-more : {X : Type 0} (number_of : ColumnName → Option ℕ) (pairs : List (ColumnName × X)) (i : ℕ) (pair : ColumnName × X) (number : ℕ) → i < length pairs → pair ≡ get_or pairs i pair → number_of pair.0 ≡ Some number
    → given_for number_of (take (i + 1) pairs) ≡ given_for number_of (take i pairs) ++ (Some number, pair.1) ∷ []
given-more {X} number_of pairs i pair number inside is named =
    let tell : ColumnName × X → Option ℕ × X = λ it. (number_of it.0, it.1) in
    ap (map tell) (take_more pairs i pair inside ∙ ap (λ it. take i pairs ++ it ∷ []) (sym is)) ∙ map-append tell (take i pairs) (pair ∷ [])
    ∙ ap (λ (n : Option ℕ). map tell (take i pairs) ++ (n, pair.1) ∷ []) named

-- a value is put for a number
pub put-more : {X S : Type 0} (number_of : ColumnName → Option ℕ) (pairs : List (ColumnName × X)) (i : ℕ) (pair : ColumnName × X) (number : ℕ) (value : Bor X) (old new : HashMap ℕ (Bor X) S)
    → i < length pairs → pair ≡ get_or pairs i pair → number_of pair.0 ≡ Some number → value.now ≡ pair.1
    → ((column : ℕ) → value_in old column ≡ last_for (given_for number_of (take i pairs)) column) → Updates nat_eq old new number (Some value)
    → (column : ℕ) → value_in new column ≡ last_for (given_for number_of (take (i + 1) pairs)) column
put-more {X} number_of pairs i pair number value old new inside is named same before updates column =
    ap (option_map (λ (it : Bor X). it.now)) (updates.0 column) ∙ by (nat_eq number column)
    ∙ sym (ap (λ (given : List (Option ℕ × X)). last_for given column) (given-more number_of pairs i pair number inside is named) ∙ last-more (given_for number_of (take i pairs)) number pair.1 column)
  where
    by : (b : Bool) → option_map (λ (it : Bor X). it.now) (cond b (Some value) (get nat_eq old column)) ≡ (if b then Some pair.1 else last_for (given_for number_of (take i pairs)) column)
    by true = ap (λ (it : X). Some it) same
    by false = before column
