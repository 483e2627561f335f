-- The rows and cells of a text, as cuts of the list of its characters: a line is a row, and tabs separate its cells.
-- An element of the list may carry more than its character, which `character` gives.
use Rattle.std.specs.Prelude.{ℕ, ◌+◌, ◌==◌, List, [], ◌∷◌, ◌++◌, map, length, if◌then◌else◌}
use Rattle.std.specs.List.{slice_split}
use Rattle.ansi_scan.specs.Pieces.{pieces}
use Rattle.ansi_str.specs.StyledText.{strip}
use Rattle.ansi_str.specs.Matches.{split_bounds, styled_parts}
-- a line feed ends a row; a carriage return before it is an ordinary character
pub use Rattle.grid_records_measure.specs.TextLines.{line_feed}
-- a tab separates two cells
pub use Rattle.grid_records_measure.specs.Tabs.{tab}

-- the lists, except for a last one that is empty
abbrev pub without_empty_last : {X : Type 0} → List (List X) → List (List X)
without_empty_last [] = []
without_empty_last ([] ∷ []) = []
without_empty_last (xs ∷ xss) = xs ∷ without_empty_last xss

-- what is between line feeds, except for a last row without characters
abbrev pub row_texts : {X : Type 0} → (X → ℕ) → List X → List (List X)
row_texts character xs = without_empty_last (slice_split (λ x. character x == line_feed) xs)

-- the cells of each row: what is between its tabs
abbrev pub rows_of : {X : Type 0} → (X → ℕ) → List X → List (List (List X))
rows_of character xs = map (slice_split (λ x. character x == tab)) (row_texts character xs)

-- ---- texts with escape sequences, by their bytes

-- a text without its sequences
abbrev pub stripped : List ℕ → List ℕ
stripped text = strip (pieces text)

-- where a byte is in a text whose first byte has this place
abbrev pub byte_places_from : ℕ → ℕ → List ℕ → List ℕ
byte_places_from byte place [] = []
byte_places_from byte place (b ∷ bs) = (if b == byte then place ∷ [] else []) ++ byte_places_from byte (place + 1) bs

abbrev pub places : ℕ → List ℕ → List ℕ
places byte text = byte_places_from byte 0 text

-- the parts of a text between the places at which an ASCII character is among those that it shows
abbrev pub parts_by_character : ℕ → List ℕ → List (List ℕ)
parts_by_character character text =
    styled_parts (pieces text) (split_bounds (character ∷ []) (stripped text) (places character (stripped text)))

-- the parts, except for a last one that shows nothing
abbrev pub without_unshown_last : List (List ℕ) → List (List ℕ)
without_unshown_last [] = []
without_unshown_last (part ∷ []) = if length (stripped part) == 0 then [] else part ∷ []
without_unshown_last (part ∷ next ∷ parts) = part ∷ without_unshown_last (next ∷ parts)

-- what is between line feeds, except for a last row without characters
abbrev pub row_parts : List ℕ → List (List ℕ)
row_parts text = without_unshown_last (parts_by_character line_feed text)

-- the cells of each row: what is between its tabs
abbrev pub cell_parts : List ℕ → List (List (List ℕ))
cell_parts text = map (parts_by_character tab) (row_parts text)
