-- The least sizes of the columns of a table that hold its cells; and of its rows, with rows and columns exchanged. A
-- column, or else a row, is called a track, as in the CSS Grid Layout Module (W3C).
use Rattle.std.specs.Prelude.{ℕ, ◌+◌, ◌-◌, ◌/◌, ◌%◌, ◌==◌, Bool, ◌&&◌, min, max, List, [], ◌∷◌, ◌++◌, map, length, sum, take, drop, if◌then◌else◌}
use Rattle.std.specs.List.{filter, flat_map, fold, range_with_len}
use Rattle.grid_records_estimate.specs.declared.need.Need.{Need}

-- a table as an estimate sees it: how many tracks it has, and how many rows (or columns) cross them; of the cell at a
-- track and a cross track whether it is visible, how many tracks it spans and what it needs of them; and which
-- boundaries exist
pub record TrackNeeds : Type 0 where
  pub tracks : ℕ
  pub cross_tracks : ℕ
  pub is_visible : ℕ → ℕ → Bool
  pub span : ℕ → ℕ → ℕ
  pub need : ℕ → ℕ → ℕ
  pub has_boundary : ℕ → Bool

-- ---- what the cells need

-- how many tracks a cell takes: its span counts only inside the table
abbrev pub length_at : TrackNeeds → ℕ → ℕ → ℕ
length_at table track cross_track = min (table.span track cross_track) (table.tracks - track)

abbrev pub need_at : TrackNeeds → ℕ → ℕ → Need
need_at table track cross_track = record { length = length_at table track cross_track; first = track; cross_track = cross_track; size = table.need track cross_track }

-- the visible cells that take n tracks from this one on
abbrev pub needs_at : TrackNeeds → ℕ → ℕ → List Need
needs_at table n track =
    map (need_at table track) (filter (λ cross_track. table.is_visible track cross_track && length_at table track cross_track == n) (range_with_len 0 table.cross_tracks))

-- those that take n tracks, by their first track
abbrev pub needs_of_length : TrackNeeds → ℕ → List Need
needs_of_length table n = flat_map (needs_at table n) (range_with_len 0 table.tracks)

-- those that take several tracks: the shorter first, then by first track, then by cross track
abbrev pub spanning_needs : TrackNeeds → List Need
spanning_needs table = flat_map (needs_of_length table) (range_with_len 2 (table.tracks - 1))

-- ---- the sizes

-- the greatest of the numbers, and 0 where there is none
abbrev pub greatest : List ℕ → ℕ
greatest [] = 0
greatest (n ∷ ns) = max n (greatest ns)

-- the smallest of the numbers, and 0 where there is none
abbrev pub smallest : List ℕ → ℕ
smallest [] = 0
smallest (n ∷ []) = n
smallest (n ∷ m ∷ ns) = min n (smallest (m ∷ ns))

-- the least size that holds each visible cell which takes this track alone
abbrev pub least_size : TrackNeeds → ℕ → ℕ
least_size table track = greatest (map (λ need. need.size) (needs_at table 1 track))

-- the boundaries strictly between the tracks of a need that exist
abbrev pub boundaries_within : (ℕ → Bool) → Need → ℕ
boundaries_within has_boundary need = length (filter has_boundary (range_with_len (need.first + 1) (need.length - 1)))

-- sizes among which an amount is divided evenly; the whole remainder goes to the first
abbrev pub with_shares : ℕ → List ℕ → List ℕ
with_shares n [] = []
with_shares n (size ∷ sizes) =
    let count = length (size ∷ sizes) in
    (size + n / count + n % count) ∷ map (λ other. other + n / count) sizes

-- the sizes of a need's tracks, which get what they and the boundaries between them lack
abbrev pub met : (ℕ → Bool) → Need → List ℕ → List ℕ
met has_boundary need sizes = with_shares (need.size - (sum sizes + boundaries_within has_boundary need)) sizes

-- all sizes, with one need met
abbrev pub meet : (ℕ → Bool) → List ℕ → Need → List ℕ
meet has_boundary sizes need =
    let rest = drop need.first sizes in
    take need.first sizes ++ (met has_boundary need (take need.length rest) ++ drop need.length rest)

-- the sizes of the tracks: those that hold the cells of one track, and then each spanning need met in its turn; none
-- where nothing crosses the tracks
unfoldable pub track_sizes : TrackNeeds → List ℕ
track_sizes table =
    if table.cross_tracks == 0 then []
    else fold (meet table.has_boundary) (map (least_size table) (range_with_len 0 table.tracks)) (spanning_needs table)
