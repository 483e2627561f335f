-- What rows of cells are, in contracts. A text is the list of its bytes.
use Rattle.std.specs.Prelude.{ℕ, ◌+◌, ◌-◌, List, [], ◌∷◌, ◌++◌, drop, if◌then◌else◌, length, map, slice_index_or, take}
use Rattle.std.specs.List.{flat_map}
use Rattle.basinmug_cells.specs.Ends.{rows_by, start_at}
use Rattle.basinmug_cells.specs.Places.{place_text}
use Rattle.basinmug_cells.specs.declared.place.Place.{Place}

-- the text of which cells are parts, the texts of the rows that are ended, and those of the row that isn't
pub record Held : Type 0 where
  pub text : List ℕ
  pub rows : List (List (List ℕ))
  pub begun : List (List ℕ)

-- rows that are ended
abbrev pub held : List ℕ → List (List (List ℕ)) → Held
held text rows = record { text = text; rows = rows; begun = [] }

-- none
abbrev pub no_rows : List ℕ → Held
no_rows text = held text []

-- with one more cell in the row that isn't ended
abbrev pub with_cell : Held → List ℕ → Held
with_cell before cell = record before { begun = before.begun ++ cell ∷ [] }

-- that row ended
abbrev pub row_ended : Held → Held
row_ended before = held before.text (before.rows ++ before.begun ∷ [])

-- as the code has them: by the places of all cells, and by where each row ends
abbrev pub held_in : List ℕ → List (List ℕ) → List Place → List ℕ → Held
held_in text own places ends =
    let texts = map (place_text text own) places in
    record { text = text; rows = rows_by 0 ends texts; begun = drop (start_at 0 ends (length ends)) texts }

-- the last of a list, as far as there are so many
abbrev pub last_of : {X : Type 0} → ℕ → List X → List X
last_of most xs = drop (length xs - most) xs

-- the first, and of those after them the last, as `head -n` and `tail -n` choose lines (POSIX)
abbrev pub first_and_last : {X : Type 0} → ℕ → ℕ → List X → List X
first_and_last first last xs = take first xs ++ last_of last (drop first xs)

-- ---- texts of cells' own that are kept

-- that at a place, if one is
abbrev pub owned_here : Place → List (List ℕ) → List (List ℕ)
owned_here place own = if place.is_own then slice_index_or own place.start [] ∷ [] else []

-- those at these places, in turn
abbrev pub owned : List Place → List (List ℕ) → List (List ℕ)
owned places own = flat_map (λ place. owned_here place own) places

-- a place with this number, if it is of a text of a cell's own
abbrev pub numbered : ℕ → Place → Place
numbered next place = if place.is_own then record place { start = next } else place

-- and the next number
abbrev pub number_behind : ℕ → Place → ℕ
number_behind next place = if place.is_own then next + 1 else next

-- the places with the numbers of texts of cells' own in turn
abbrev pub renumbered : ℕ → List Place → List Place
renumbered next [] = []
renumbered next (place ∷ places) = numbered next place ∷ renumbered (number_behind next place) places
