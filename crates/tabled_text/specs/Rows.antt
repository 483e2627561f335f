-- Rows of texts, and what makes them equally long.
use Rattle.std.specs.Prelude.{ℕ, ◌-◌, List, [], ◌∷◌, ◌++◌, Vec, length, map, max, replicate, string_bytes, vec_items}
use Rattle.std.specs.declared.string.String.{String}

-- the texts of rows in vectors
abbrev pub text_rows : {Z : Type 0} → List (Vec (String Z) Z) → List (List (List ℕ))
text_rows rows = map (λ row. map string_bytes (vec_items row)) rows

-- the items of rows in vectors
abbrev pub row_items : {X Z : Type 0} → List (Vec X Z) → List (List X)
row_items rows = map (λ row. vec_items row) rows

-- how many items the longest row has; 0 where there is no row
abbrev pub longest : {X : Type 0} → List (List X) → ℕ
longest [] = 0
longest (row ∷ rows) = max (length row) (longest rows)

-- a row with an empty text for each that it lacks
abbrev pub filled_row : ℕ → List (List ℕ) → List (List ℕ)
filled_row count row = row ++ replicate (count - length row) []

-- the rows, the short ones filled up to the longest
abbrev pub filled : List (List (List ℕ)) → List (List (List ℕ))
filled rows = map (filled_row (longest rows)) rows
