-- Rows of texts, looked up one by one.
use Rattle.std.specs.Prelude.{ℕ, List, map}
use Rattle.std.specs.List.{range_with_len}
use Rattle.grid_records_traits.specs.Rows.{text_at}

-- n texts of a row, from a column on
abbrev pub row_texts_from : List (List (List ℕ)) → ℕ → ℕ → ℕ → List (List ℕ)
row_texts_from rows row column n = map (λ j. text_at rows (record { row = row; col = j })) (range_with_len column n)

-- n rows, from a row on, of `columns` texts each
abbrev pub rows_from : List (List (List ℕ)) → ℕ → ℕ → ℕ → List (List (List ℕ))
rows_from rows columns row n = map (λ i. row_texts_from rows i 0 columns) (range_with_len row n)
