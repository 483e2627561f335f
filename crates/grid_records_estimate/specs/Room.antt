-- How much the sizes of a table leave for its cells.
use Rattle.std.specs.Prelude.{◌≡◌, ℕ, ◌+◌, ◌<◌, ◌≤◌, true, List, drop, sum, take}
use Rattle.grid_records_estimate.specs.Estimates.{TrackNeeds, boundaries_within, length_at, need_at}

-- what a cell has: the sizes of the tracks that it takes inside the table, and the boundaries between them that exist
abbrev pub room_in_tracks : TrackNeeds → List ℕ → ℕ → ℕ → ℕ
room_in_tracks table sizes track cross_track =
    sum (take (length_at table track cross_track) (drop track sizes)) + boundaries_within table.has_boundary (need_at table track cross_track)

-- each visible cell has the size that it needs. A cell takes at least one track
abbrev pub LeaveRoom : TrackNeeds → List ℕ → Type 0
LeaveRoom table sizes =
    (track cross_track : ℕ) → track < table.tracks → cross_track < table.cross_tracks → table.is_visible track cross_track ≡ true → 0 < table.span track cross_track
    → table.need track cross_track ≤ room_in_tracks table sizes track cross_track
