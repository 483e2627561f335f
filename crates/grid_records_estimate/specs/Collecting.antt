-- What is kept of the needs of a table's cells as they are collected, and what is known of sizes.
use Rattle.std.specs.Prelude.{◌≡◌, ℕ, ◌+◌, ◌-◌, ◌^◌, ◌<◌, ◌≤◌, ◌==◌, Bool, ◌&&◌, not, min, List, [], ◌∷◌, map, length, slice_index, slice_index_or, nat_lt, if◌then◌else◌}
use Rattle.std.specs.List.{filter, flat_map, range_with_len}
use Rattle.std.specs.List.Sorted.{IsPermutation}
use Rattle.grid_records_estimate.specs.declared.need.Need.{Need}
use Rattle.grid_records_estimate.specs.Estimates.{TrackNeeds, greatest}

-- ---- sizes

-- a size passes the greatest `usize`
abbrev pub PassesMax : List ℕ → Type 0
PassesMax sizes = (track : ℕ) × (2 ^ 64 ≤ slice_index sizes track)

-- whether a boundary exists is the same for all that are strictly inside a table of `tracks` tracks
abbrev pub HasBetween : (ℕ → Bool) → ℕ → Bool → Type 0
HasBetween has_boundary tracks between = (j : ℕ) → 0 < j → j < tracks → has_boundary j ≡ between

-- ---- needs

-- the need is of at least one of `tracks` tracks, and of no more than four sizes together
pub record IsInTracks (tracks : ℕ) (need : Need) : Type 0 where
  pub some : 0 < need.length
  pub tracks_fit : need.first + need.length ≤ tracks
  pub small : need.size < 2 ^ 66

abbrev pub AreInTracks : ℕ → List Need → Type 0
AreInTracks tracks needs = (k : ℕ) (d : Need) → k < length needs → IsInTracks tracks (slice_index_or needs k d)

-- each need begins in a table of `tracks` tracks
abbrev pub AreFirstBelow : ℕ → List Need → Type 0
AreFirstBelow tracks needs = (k : ℕ) (d : Need) → k < length needs → (slice_index_or needs k d).first < tracks

-- each need is of at least one track, and of no more than four sizes together
abbrev pub AreSound : List Need → Type 0
AreSound needs = (k : ℕ) (d : Need) → k < length needs → (0 < (slice_index_or needs k d).length) × ((slice_index_or needs k d).size < 2 ^ 66)

-- the need in a table of `tracks` tracks: a span counts only inside it
abbrev pub clipped : ℕ → Need → Need
clipped tracks need = record need { length = min need.length (tracks - need.first) }

-- the needs of the visible cells, with their spans as they were set
abbrev pub all_needs : TrackNeeds → List Need
all_needs table =
    flat_map (λ track. flat_map (λ cross_track.
    if table.is_visible track cross_track
    then record { length = table.span track cross_track; first = track; cross_track = cross_track; size = table.need track cross_track } ∷ []
    else [])
    (range_with_len 0 table.cross_tracks)) (range_with_len 0 table.tracks)

-- ---- what is kept of them

-- of each track the greatest need of it alone, and the other needs
pub record Collected : Type 0 where
  pub sizes : List ℕ
  pub others : List Need

-- the need is of one track, and a `usize` holds it
abbrev pub is_of_one_track : Need → Bool
is_of_one_track need = need.length == 1 && nat_lt need.size (2 ^ 64)

-- how much a need of one track requires of a track
abbrev pub size_alone : ℕ → Need → ℕ
size_alone track need = if is_of_one_track need && need.first == track then need.size else 0

-- the needs of one track are kept by their greatest, the others as they came
pub record HasCollected (collected : Collected) (needs : List Need) : Type 0 where
  pub sizes : (track : ℕ) → slice_index collected.sizes track ≡ greatest (map (size_alone track) needs)
  pub others : collected.others ≡ filter (λ need. not (is_of_one_track need)) needs

-- what is kept is of the needs of all visible cells, in whatever order they came
pub record Describes (table : TrackNeeds) (tracks cross_tracks : ℕ) (between : Bool) (collected : Collected) : Type 0 where
  pub tracks_are : table.tracks ≡ tracks
  pub cross_tracks_are : table.cross_tracks ≡ cross_tracks
  pub boundaries : HasBetween table.has_boundary tracks between
  pub needs : List Need
  pub kept : HasCollected collected needs
  pub all : IsPermutation needs (all_needs table)
