-- Rows of texts, each as long as the longest, one after the other.
use Rattle.std.specs.Prelude.{ℕ, List, [], map, slice_index_or}
use Rattle.std.specs.List.{range_with_len}
use Rattle.grid_records_traits.specs.Rows.{row_at}

-- so many texts of a row from a column on, with an empty one where there is none
abbrev pub texts_from : List (List ℕ) → ℕ → ℕ → List (List ℕ)
texts_from row column count = map (λ k. slice_index_or row k []) (range_with_len column count)

-- so many rows from one on, of so many texts each
abbrev pub rows_from : List (List (List ℕ)) → ℕ → ℕ → ℕ → List (List (List ℕ))
rows_from rows columns row count = map (λ k. texts_from (row_at rows k) 0 columns) (range_with_len row count)
