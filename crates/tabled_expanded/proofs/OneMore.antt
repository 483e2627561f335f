-- The text of records, with one more; and where no line is left.
use Rattle.std.proofs.Common.{◌≡◌, ◌∙◌, ◌⊎◌, inl, inr, sym, ap, refl, arith, ℕ, ◌+◌, ◌<◌, ◌≤◌, List, [], ◌∷◌, ◌++◌, String, Vec, get_or, length, map, string_bytes, take, vec_items, zip}
use Rattle.std.specs.declared.alloc.Global.{Global}
use Rattle.std.proofs.lemmas.List.{length-map, length-take-le, map_push, take_more}
use Rattle.tabled_text.specs.Rows.{text_rows}
use Rattle.tabled_expanded.specs.Expanded.{Expanded, all_lines, behind_feeds, expanded_text, feed_before, field_line, field_lines, field_width, joined_lines, record_lines, value_width}
use Rattle.tabled_expanded.proofs.Joining.{text_more}

zip_none : {A B : Type 0} (xs : List A) → zip {K = A} {X = B} xs [] ≡ []
zip_none [] = refl
zip_none (x ∷ xs) = refl

-- there is no line where no name or no value is left
pub no_lines : (width : ℕ) (fields values : List (String Global)) → (fields ≡ []) ⊎ (values ≡ []) → behind_feeds (field_lines width (map string_bytes fields) (map string_bytes values)) ≡ []
no_lines width fields values (inl none) =
    ap (λ (left : List (String Global)). behind_feeds (field_lines width (map string_bytes left) (map string_bytes values))) none
no_lines width fields values (inr none) =
    ap (λ (left : List (String Global)). behind_feeds (field_lines width (map string_bytes fields) (map string_bytes left))) none
    ∙ ap (λ (pairs : List (List ℕ × List ℕ)). behind_feeds (map (λ (pair : List ℕ × List ℕ). field_line width pair.0 pair.1) pairs)) (zip_none (map string_bytes fields))

-- a text of so many records, with a line feed where it needs one and the lines of the next, is the text of one more
pub record_more : (width values_width : ℕ) (fields heads : List (List ℕ)) (records : List (Vec (String Global) Global)) (number : ℕ) (values : Vec (String Global) Global) (head text : List ℕ) →
    length heads ≡ number → number < length records → values ≡ get_or records number values →
    text ≡ joined_lines (all_lines width values_width fields heads (text_rows (take number records))) →
    text ++ feed_before number ++ joined_lines (record_lines width values_width fields head (map string_bytes (vec_items values)))
    ≡ joined_lines (all_lines width values_width fields (heads ++ head ∷ []) (text_rows (take (number + 1) records)))
record_more width values_width fields heads records number values head text count inside is so_far =
    let texts = λ (row : Vec (String Global) Global). map string_bytes (vec_items row) in
    let before = text_rows (take number records) in
    let lines = joined_lines (record_lines width values_width fields head (map string_bytes (vec_items values))) in
    let within : number ≤ length records = omega arith in
    let same : length heads ≡ length before = count ∙ sym (length-map (take number records) texts ∙ length-take-le number records within) in
    let taken : take (number + 1) records ≡ take number records ++ values ∷ [] =
    take_more records number values inside ∙ ap (λ (last : Vec (String Global) Global). take number records ++ last ∷ []) (sym is) in
    let rows = ap text_rows taken ∙ map_push texts (take number records) values in
    ap (λ (bytes : List ℕ). bytes ++ feed_before number ++ lines) so_far
    ∙ ap (λ (n : ℕ). joined_lines (all_lines width values_width fields heads before) ++ feed_before n ++ lines) (sym count)
    ∙ text_more width values_width fields heads before head (map string_bytes (vec_items values)) same
    ∙ ap (λ (all : List (List (List ℕ))). joined_lines (all_lines width values_width fields (heads ++ head ∷ []) all)) (sym rows)

-- the text by widths that are those of the table
pub text_of_table : (table : Expanded) (width values_width : ℕ) (fields : List (List ℕ)) (records : List (List (List ℕ))) (heads : List (List ℕ)) →
    width ≡ field_width table → values_width ≡ value_width table → fields ≡ table.fields → records ≡ table.records →
    joined_lines (all_lines width values_width fields heads records) ≡ expanded_text table heads
text_of_table table width values_width fields records heads by_fields by_values same_fields same_records =
    ap (λ (n : ℕ). joined_lines (all_lines n values_width fields heads records)) by_fields
    ∙ ap (λ (n : ℕ). joined_lines (all_lines (field_width table) n fields heads records)) by_values
    ∙ ap (λ (names : List (List ℕ)). joined_lines (all_lines (field_width table) (value_width table) names heads records)) same_fields
    ∙ ap (λ (rows : List (List (List ℕ))). joined_lines (all_lines (field_width table) (value_width table) table.fields heads rows)) same_records
