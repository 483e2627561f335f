-- Names beside texts, one row after the other.
use Rattle.std.proofs.Common.{◌≡◌, ◌+◌, add-one, ◌<◌, ◌∙◌, ap, sym, refl, arith, ℕ, zero, suc, List, [], ◌∷◌, ◌++◌, Vec, get_or, length, map, string_bytes, take, vec_items}
use Rattle.std.proofs.lemmas.List.{append_assoc, map_push}
use Rattle.std.proofs.lemmas.List.Elements.{All-append, All-cons, All-nil}
use Rattle.std.specs.List.{All}
use Rattle.std.specs.declared.string.String.{String}
use Rattle.tabled_text.specs.Rows.{text_rows}
use Rattle.tabled.specs.Making.{named_field_rows, named_fields}

-- the next name and text are the next row
pub named_next : (names texts : List (List ℕ)) (i : ℕ) (d : List ℕ) → i < length names → length names ≡ length texts →
    named_fields (take (suc i) names) (take (suc i) texts) ≡ named_fields (take i names) (take i texts) ++ (get_or names i d ∷ get_or texts i d ∷ []) ∷ []
named_next [] texts i d inside same = absurd (omega (arith, inside))
named_next (name ∷ names) [] i d inside same = absurd (omega (arith, same))
named_next (name ∷ names) (text ∷ texts) zero d inside same = refl
named_next (name ∷ names) (text ∷ texts) (suc i) d inside same = ap (λ rows. (name ∷ text ∷ []) ∷ rows) (named_next names texts i d (omega (arith, inside)) (omega (arith, same)))

-- each row of a name and a text has two texts
pub named_wide : (names texts : List (List ℕ)) → All (λ row. length row ≡ 2) (named_fields names texts)
named_wide [] texts = All-nil (λ (row : List (List ℕ)). length row ≡ 2)
named_wide (name ∷ names) [] = All-nil (λ (row : List (List ℕ)). length row ≡ 2)
named_wide (name ∷ names) (text ∷ texts) = All-cons (λ (row : List (List ℕ)). length row ≡ 2) (name ∷ text ∷ []) (named_fields names texts) refl (named_wide names texts)

pub named_rows_wide : {T : Type 0} (names : List (List ℕ)) (texts : T → List (List ℕ)) (values : List T) → All (λ row. length row ≡ 2) (named_field_rows names texts values)
named_rows_wide names texts [] = All-nil (λ (row : List (List ℕ)). length row ≡ 2)
named_rows_wide names texts (value ∷ values) =
    All-append (λ (row : List (List ℕ)). length row ≡ 2) (named_fields names (texts value)) (named_field_rows names texts values) (named_wide names (texts value)) (named_rows_wide names texts values)

module _ {Z : Type 0} (rows more start : List (Vec (String Z) Z)) (row : Vec (String Z) Z) (names texts : List (List ℕ)) (i : ℕ) (name text : List ℕ) where
  pub named_pushed : more ≡ rows ++ row ∷ [] → text_rows rows ≡ text_rows start ++ named_fields (take i names) (take i texts) → map string_bytes (vec_items row) ≡ name ∷ text ∷ [] →
      name ≡ get_or names i [] → text ≡ get_or texts i [] → i < length names → length names ≡ length texts →
      text_rows more ≡ text_rows start ++ named_fields (take (i + 1) names) (take (i + 1) texts)
  named_pushed pushed so_far of_row of_name of_text inside same =
      ap text_rows pushed ∙ map_push (λ (cells : Vec (String Z) Z). map string_bytes (vec_items cells)) rows row
      ∙ ap (λ before. before ++ map string_bytes (vec_items row) ∷ []) so_far
      ∙ ap (λ last. (text_rows start ++ named_fields (take i names) (take i texts)) ++ last ∷ []) (of_row ∙ ap (λ n. n ∷ text ∷ []) of_name ∙ ap (λ t. get_or names i [] ∷ t ∷ []) of_text)
      ∙ append_assoc (text_rows start) (named_fields (take i names) (take i texts)) ((get_or names i [] ∷ get_or texts i [] ∷ []) ∷ [])
      ∙ ap (λ rows. text_rows start ++ rows) (sym (ap (λ k. named_fields (take k names) (take k texts)) (add-one i) ∙ named_next names texts i [] inside same))
