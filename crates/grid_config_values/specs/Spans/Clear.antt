-- What a test of each span finds out about all of them.
use Rattle.std.specs.Prelude.{◌≡◌, ◌≢◌, ℕ, ◌+◌, ◌<◌, ◌≤◌, Bool, true, false, ◌&&◌, not, List, Option, None, Some, IfSome}
use Rattle.std.specs.Map.{lookup}
use Rattle.grid_config_values.specs.declared.position.Position.{Position}
use Rattle.grid_config_values.specs.Order.{same_place}
use Rattle.grid_config_values.specs.declared.spans.extent.Extent.{Extent}
use Rattle.grid_config_values.specs.Spans.Rectangles.{IsInside}
use Rattle.grid_config_values.specs.Spans.Search.{overlaps}
use Rattle.grid_config_values.specs.Spans.Spans.{IsInTable, single}

-- this is one of the spans
abbrev pub Has : List (Position × Extent) → Position × Extent → Type 0
Has spans span = lookup (same_place span.0) spans ≡ Some span.1

-- each of them takes more than one row or column
abbrev pub NoneIsSingle : List (Position × Extent) → Type 0
NoneIsSingle spans = (span : Position × Extent) → Has spans span → span.1 ≢ single

-- a cell in the row of the place, left of it
abbrev pub IsLeftOf : Position → Position → Type 0
IsLeftOf place cell = (cell.row ≡ place.row) × (cell.col < place.col)

-- of the spans that begin in the row of a place, left of it, none or the last
abbrev pub IsLastLeftOf : List (Position × Extent) → Position → Option (Position × Extent) → Type 0
IsLastLeftOf spans place None = (span : Position × Extent) → Has spans span → IsLeftOf place span.0 → ⊥
IsLastLeftOf spans place (Some last) = Has spans last × IsLeftOf place last.0 × ((span : Position × Extent) → Has spans span → IsLeftOf place span.0 → span.0.col ≤ last.0.col)

-- another span that shares a place with the rectangle
abbrev pub is_overlapped_by : Position → Extent → Position × Extent → Bool
is_overlapped_by anchor extent span = not (same_place span.0 anchor) && overlaps anchor extent span.0 span.1

-- where the rectangle ends in a row
abbrev pub right_end : Position → Extent → ℕ → Position
right_end anchor extent row = record { row = row; col = anchor.col + extent.columns }

-- one of the spans that begin in this row, left of the rectangle's right end, overlaps it
abbrev pub IsOverlappedIn : List (Position × Extent) → Position → Extent → ℕ → Type 0
IsOverlappedIn spans anchor extent row = (span : Position × Extent) × Has spans span × IsLeftOf (right_end anchor extent row) span.0 × (is_overlapped_by anchor extent span ≡ true)

-- the last of them doesn't
abbrev pub IsClearIn : List (Position × Extent) → Position → Extent → ℕ → Type 0
IsClearIn spans anchor extent row =
    (last : Option (Position × Extent)) × IsLastLeftOf spans (right_end anchor extent row) last × IfSome last (λ span. is_overlapped_by anchor extent span ≡ false)

abbrev pub IsOverlapped : List (Position × Extent) → Position → Extent → Type 0
IsOverlapped spans anchor extent = (row : ℕ) × (anchor.row ≤ row) × (row < anchor.row + extent.rows) × IsOverlappedIn spans anchor extent row

-- in each row from the first one on, before the end
abbrev pub IsClearFrom : List (Position × Extent) → Position → Extent → ℕ → Type 0
IsClearFrom spans anchor extent end = (row : ℕ) → anchor.row ≤ row → row < end → IsClearIn spans anchor extent row

-- not in the table, or inside it and clear in each row
abbrev pub IsClear : List (Position × Extent) → ℕ → ℕ → Position × Extent → Type 0
IsClear spans rows columns span =
    IsInTable rows columns span.0 → IsInside span.0 span.1 rows columns × IsClearFrom spans span.0 span.1 (span.0.row + span.1.rows)
