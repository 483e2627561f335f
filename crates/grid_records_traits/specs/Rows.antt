-- Rows of texts.
use Rattle.std.specs.Prelude.{ℕ, ◌-◌, ◌<◌, List, [], ◌++◌, length, map, replicate, slice_index_or, slice_set, take}
use Rattle.grid_config_values.specs.declared.Position.{Position}

-- the first texts of a row, as many, and an empty one for each that it lacks
abbrev pub evened_row : ℕ → List (List ℕ) → List (List ℕ)
evened_row n row = take n row ++ replicate (n - length row) []

-- the rows with n texts each
abbrev pub evened : ℕ → List (List (List ℕ)) → List (List (List ℕ))
evened n rows = map (evened_row n) rows

-- the row with this number, and after the last an empty one
abbrev pub row_at : List (List (List ℕ)) → ℕ → List (List ℕ)
row_at rows i = slice_index_or rows i []

-- the text of the cell at this place, and where there is none the empty text
abbrev pub text_at : List (List (List ℕ)) → Position → List ℕ
text_at rows pos = slice_index_or (row_at rows pos.row) pos.col []

-- there is a cell at this place
abbrev pub HasCell : List (List (List ℕ)) → Position → Type 0
HasCell rows pos = (pos.row < length rows) × (pos.col < length (row_at rows pos.row))

-- the rows with this text at this place
abbrev pub with_text : List (List (List ℕ)) → Position → List ℕ → List (List (List ℕ))
with_text rows pos text = slice_set rows pos.row (slice_set (row_at rows pos.row) pos.col text)
