-- Rows of the fields of values, one after the other.
use Rattle.std.proofs.Common.{◌≡◌, ◌∙◌, ap, sym, ℕ, List, [], ◌∷◌, ◌++◌, Vec, length, map, string_bytes, vec_items}
use Rattle.std.proofs.lemmas.List.{append_assoc, map_push}
use Rattle.std.proofs.lemmas.List.Elements.{All-push, All-same}
use Rattle.std.specs.List.{All}
use Rattle.std.specs.declared.string.String.{String}
use Rattle.tabled_text.specs.Rows.{text_rows}

module _ {Z : Type 0} (rows more : List (Vec (String Z) Z)) (row : Vec (String Z) Z) (pushed : more ≡ rows ++ row ∷ []) where
  texts_pushed : text_rows more ≡ text_rows rows ++ map string_bytes (vec_items row) ∷ []
  texts_pushed = ap text_rows pushed ∙ map_push (λ (cells : Vec (String Z) Z). map string_bytes (vec_items cells)) rows row

  pub value_pushed : {T : Type 0} (texts : T → List (List ℕ)) (start : List (List (List ℕ))) (taken : List T) (item : T) → text_rows rows ≡ start ++ map texts taken → map string_bytes (vec_items row) ≡ texts item →
      text_rows more ≡ start ++ map texts (taken ++ item ∷ [])
  value_pushed texts start taken item so_far of_item =
      texts_pushed ∙ ap (λ before. before ++ map string_bytes (vec_items row) ∷ []) so_far ∙ ap (λ last. (start ++ map texts taken) ++ last ∷ []) of_item
      ∙ append_assoc start (map texts taken) (texts item ∷ []) ∙ ap (λ rows. start ++ rows) (sym (map_push texts taken item))

  pub wide_pushed : (n : ℕ) → All (λ row. length row ≡ n) (text_rows rows) → length (map string_bytes (vec_items row)) ≡ n → All (λ row. length row ≡ n) (text_rows more)
  wide_pushed n wide of_row =
      All-same (λ (row : List (List ℕ)). length row ≡ n) (text_rows more) (text_rows rows ++ map string_bytes (vec_items row) ∷ []) texts_pushed
      (All-push (λ (row : List (List ℕ)). length row ≡ n) (text_rows rows) (map string_bytes (vec_items row)) wide of_row)
