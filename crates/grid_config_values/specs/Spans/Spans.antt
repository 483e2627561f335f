-- The cells that span several rows or columns.
use Rattle.std.specs.Prelude.{◌≡◌, ◌≢◌, ◌↔◌, ℕ, ◌<◌, ◌≤◌, ◌==◌, List, Option, None, Some, Result, Err, IfErr, IsOk, OnErr, OnOk, if◌then◌else◌, unwrap_or}
use Rattle.std.specs.Map.{lookup}
use Rattle.grid_config_values.specs.declared.fault.Fault.{Fault}
use Rattle.grid_config_values.specs.declared.fault.Fault.TheVariants.{Memory, Spans as BadSpan}
use Rattle.grid_config_values.specs.declared.position.Position.{Position}
use Rattle.grid_config_values.specs.Order.{same_place}
use Rattle.grid_config_values.specs.declared.spans.extent.Extent.{Extent}
use Rattle.grid_config_values.specs.declared.spans.spans.Spans.TheInside.{Inside}
use Rattle.grid_config_values.specs.Spans.Rectangles.{Holds, IsInside}

-- one row and one column
abbrev pub single : Extent
single = record { rows = 1; columns = 1 }

-- how many rows and columns the cell at a place takes
unfoldable pub extent_at : List (Position × Extent) → Position → Extent
extent_at spans place = unwrap_or (lookup (same_place place) spans) single

-- each cell takes at least one row and one column
abbrev pub ArePositive : List (Position × Extent) → Type 0
ArePositive spans = (place : Position) → (0 < (extent_at spans place).rows) × (0 < (extent_at spans place).columns)

-- the cell spans several rows or columns, or both
abbrev pub SpansSeveral : List (Position × Extent) → Position → Type 0
SpansSeveral spans place = extent_at spans place ≢ single

-- the rectangle of no other cell holds the place
abbrev pub IsVisible : List (Position × Extent) → Position → Type 0
IsVisible spans place = (anchor : Position) → Holds anchor (extent_at spans anchor) place → anchor ≡ place

abbrev pub IsInTable : ℕ → ℕ → Position → Type 0
IsInTable rows columns place = (place.row < rows) × (place.col < columns)

-- each cell in a table of `rows` rows and `columns` columns that spans several has its rectangle inside it, and no two
-- of these share a place
pub record AreGood (spans : List (Position × Extent)) (rows columns : ℕ) : Type 0 where
  pub inside : (anchor : Position) → SpansSeveral spans anchor → IsInTable rows columns anchor → IsInside anchor (extent_at spans anchor) rows columns
  pub apart : (a b place : Position) → SpansSeveral spans a → SpansSeveral spans b → IsInTable rows columns a → IsInTable rows columns b →
      Holds a (extent_at spans a) place → Holds b (extent_at spans b) place → a ≡ b

-- the cell at this place takes the extent, and every other cell what it took
abbrev pub SetsExtent : List (Position × Extent) → List (Position × Extent) → Position → Extent → Type 0
SetsExtent old new place extent = (p : Position) → extent_at new p ≡ (if same_place place p then extent else extent_at old p)

-- a span of n is requested: the cell takes the extent, or the call is refused and nothing changes; as a bad span exactly
-- where n is 0, and else for want of memory, but not where n is 1 or the cell spans several already
pub record SetsSpanOrIsRefused {X : Type 0} (old new : List (Position × Extent)) (place : Position) (n : ℕ) (extent : Extent) (result : Result X Fault) : Type 0 where
  pub set : OnOk result (SetsExtent old new place extent)
  pub refused : OnErr result (new ≡ old)
  pub zero : result ≡ Err BadSpan ↔ (n ≡ 0)
  pub fault : n ≢ 0 → IfErr result (λ fault. fault ≡ Memory)
  pub one : n ≡ 1 → IsOk result
  pub again : n ≢ 0 → SpansSeveral old place → IsOk result

-- the number, where it is not 1
abbrev pub span_if_several : ℕ → Option ℕ
span_if_several n = if n == 1 then None else Some n

-- what is kept of the extents: none is of no row or no column, none passes the two bounds, and none that is kept is a
-- single cell
pub record IsBounded (fields : Inside) : Type 0 where
  pub rows : (p : Position) → (0 < (extent_at fields.extents.entries p).rows) × ((extent_at fields.extents.entries p).rows ≤ fields.most_rows)
  pub columns : (p : Position) → (0 < (extent_at fields.extents.entries p).columns) × ((extent_at fields.extents.entries p).columns ≤ fields.most_columns)
  pub kept : (p : Position) (e : Extent) → lookup (same_place p) fields.extents.entries ≡ Some e → e ≢ single
