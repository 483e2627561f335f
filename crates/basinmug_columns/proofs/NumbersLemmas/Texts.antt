-- A text among the cells of a column.
use Rattle.std.proofs.Common.{◌≡◌, ◌∙◌, ap, ℕ, ◌<◌, ◌+◌, false, List, [], ◌∷◌, ◌++◌, length, map, get_or, zero-add, ◌&&◌}
use Rattle.std.specs.Prelude.{not}
use Rattle.std.specs.List.{list_any, range_with_len}
use Rattle.std.proofs.lemmas.List.Folds.{list_all_at}
use Rattle.std.proofs.lemmas.List.FromFn.{map-range_with_len_more}
use Rattle.basinmug_columns.specs.Numbers.Columns.{is_a_number, is_numeric, is_text, kind_of_cell}
use Rattle.basinmug_columns.specs.declared.numbers.columns.Content.TheVariants.{Text}

-- a column is not of numbers where one of its cells is a text
pub is_numeric-text : (rows : List (List (List ℕ))) (column i : ℕ) (row : List (List ℕ)) → i < length rows → get_or rows i row ≡ row → kind_of_cell column row ≡ Text → is_numeric rows column ≡ false
is_numeric-text rows column i row lt at is =
    let fails : not (is_text (kind_of_cell column (get_or rows i row))) ≡ false = ap (λ it. not (is_text (kind_of_cell column it))) at ∙ ap (λ kind. not (is_text kind)) is in
    ap (λ all. all && list_any (λ it. is_a_number (kind_of_cell column it)) rows) (list_all_at (λ it. not (is_text (kind_of_cell column it))) rows i row lt fails)

-- a list that has grown by the next value of a function over numbers
pub next_mapped : {X : Type 0} (f : ℕ → X) (n : ℕ) (x : X) (old new : List X) → new ≡ old ++ x ∷ [] → old ≡ map f (range_with_len 0 n) → x ≡ f n → new ≡ map f (range_with_len 0 (n + 1))
next_mapped f n x old new grown before value = cc (map-range_with_len_more f 0 n n (zero-add n))
