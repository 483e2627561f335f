-- Where cells have their texts: a part of one text, or one of the texts apart from it, which are the cells' own.
use Rattle.std.specs.Prelude.{◌≡◌, ℕ, ◌+◌, ◌<◌, true, false, List, [], if◌then◌else◌, length, slice_index_or, slice_range}
use Rattle.std.specs.Str.{IsCharBoundary}
use Rattle.grid_records_traits.specs.SingleLines.{IsSingleLine}
use Rattle.basinmug_cells.specs.declared.place.Place.{Place}

-- the place of a part, and of a text apart
abbrev pub part_place : ℕ → ℕ → ℕ → Place
part_place start len width = record { start = start; len = len; width = width; is_own = false }

abbrev pub own_place : ℕ → Place
own_place index = record { start = index; len = 0; width = 0; is_own = true }

-- the text of a place: of a cell's own, or a part
abbrev pub place_text : List ℕ → List (List ℕ) → Place → List ℕ
place_text text own place = if place.is_own then slice_index_or own place.start [] else slice_range text place.start (place.start + place.len)

-- a part of the text is one line by itself, and takes so many columns
pub record IsPart (text : List ℕ) (start len width : ℕ) : Type 0 where
  pub begins : IsCharBoundary text start
  pub ends : IsCharBoundary text (start + len)
  pub line : IsSingleLine (slice_range text start (start + len)) width

-- there is such a text of a cell's own, or such a part
pub record IsPlace (text : List ℕ) (own : List (List ℕ)) (place : Place) : Type 0 where
  pub apart : place.is_own ≡ true → place.start < length own
  pub part : place.is_own ≡ false → IsPart text place.start place.len place.width
