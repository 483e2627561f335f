-- Columns that are chosen of rows.
use Rattle.std.specs.Prelude.{ℕ, List, [], Option, None, Some, map, slice_index_or}
use Rattle.basinmug_cells.specs.declared.place.Place.{Place}

-- the text of a row in a column: one that the row lacks is the empty text, and for a column that is left out stands a mark
abbrev pub selected_text : List ℕ → List (List ℕ) → Option ℕ → List ℕ
selected_text mark row None = mark
selected_text mark row (Some column) = slice_index_or row column []

-- these columns of a row
abbrev pub selected : List (Option ℕ) → List ℕ → List (List ℕ) → List (List ℕ)
selected columns mark row = map (selected_text mark row) columns

-- as places, of which one is the mark's, and one that of an empty text
abbrev pub selected_place : List Place → Place → Place → Option ℕ → Place
selected_place row mark empty None = mark
selected_place row mark empty (Some column) = slice_index_or row column empty
