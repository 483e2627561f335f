-- The cell that is seen at a place.
use Rattle.std.specs.Prelude.{◌≡◌, ℕ, ◌+◌, ◌<◌, ◌≤◌, Bool, true, false, ◌&&◌, not, Option, None, Some, unwrap_or}
use Rattle.std.specs.List.{find}
use Rattle.std.specs.Ordering.{is_le}
use Rattle.grid_config_values.specs.declared.position.Position.{Position}
use Rattle.grid_config_values.specs.Entities.{table_positions}
use Rattle.grid_config_values.specs.Order.{position_cmp, same_place}
use Rattle.grid_config_values.specs.declared.spans.extent.Extent.{Extent}
use Rattle.grid_config_values.specs.Spans.Search.{holds}

-- the rectangle of the cell there, which takes so much, holds another place
abbrev pub hides : (Position → Extent) → Position → Position → Bool
hides extent place cell = holds cell (extent cell) place && not (same_place cell place)

-- the cell that is seen at a place: of those that hold it besides the place's own the first by row, then by column, and where
-- there is none the cell of the place itself
abbrev pub owner : (Position → Extent) → Position → Position
owner extent place = unwrap_or (find (hides extent place) (table_positions (place.row + 1) (place.col + 1))) place

-- of some places none passes, or this is the first of those that do
abbrev pub IsFirst : (Position → Bool) → (Position → Type 0) → Option Position → Type 0
IsFirst test among None = (p : Position) → among p → test p ≡ false
IsFirst test among (Some first) = (test first ≡ true) × among first × ((p : Position) → among p → test p ≡ true → is_le (position_cmp first p) ≡ true)

-- from a row on, in so many columns
abbrev pub InRows : ℕ → ℕ → ℕ → Position → Type 0
InRows columns row n p = (row ≤ p.row) × (p.row < row + n) × (p.col < columns)

-- where another cell that holds the place may be
abbrev pub UpTo : Position → Position → Type 0
UpTo place p = InRows (place.col + 1) 0 (place.row + 1) p
