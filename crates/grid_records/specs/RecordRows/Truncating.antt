-- Cells that are cut at the widths of their columns.
use Rattle.std.specs.Prelude.{◌≡◌, ◌<◌, ◌≤◌, ◌+◌, ◌^◌, ◌-◌, ℕ, List, [], ◌∷◌, MatchOption, MatchResult, None, Option, Result, Some, if◌then◌else◌, map, nat_lt, string_bytes}
pub use Rattle.grid_records_measure.specs.CutTexts.{truncated_text}
use Rattle.grid_records_measure.specs.TextLines.{text_width}
use Rattle.grid_records.specs.declared.rows.records.into_records.truncate_content.Truncated.{Truncated}
use Rattle.grid_records.specs.declared.rows.records.into_records.truncate_content.Truncated.TheVariants.{Cut, Whole}
use Rattle.grid_records.specs.declared.rows.records.into_records.truncate_content.TruncatedCells.{TruncatedCells}
use Rattle.grid_records.specs.declared.rows.records.into_records.truncate_content.TruncatedRows.{TruncatedRows}

-- the number of the next column; no number passes the greatest `usize`
abbrev pub next_column : ℕ → ℕ
next_column column = if nat_lt column (2 ^ 64 - 1) then column + 1 else column

-- the texts of a row from a column on, each cut at the width of its column
abbrev pub truncated_row : (ℕ → ℕ) → ℕ → List (List ℕ) → List (List ℕ)
truncated_row width column [] = []
truncated_row width column (text ∷ row) = truncated_text (width column) text ∷ truncated_row width (next_column column) row

abbrev pub truncated_rows : (ℕ → ℕ) → List (List (List ℕ)) → List (List (List ℕ))
truncated_rows width rows = map (truncated_row width 0) rows

abbrev pub text_of_truncated : {C : Type 0} → (C → List ℕ) → Truncated C → List ℕ
text_of_truncated text (Whole cell) = text cell
text_of_truncated text (Cut kept) = string_bytes kept

-- the result is what is left of the cell that came, which is the cell itself where its text is no wider. Or it is a
-- refusal: the one that came, or of a text that is wider
abbrev pub IsTruncated : {C E : Type 0} → (C → List ℕ) → ℕ → Result C E → Result (Truncated C) E → Type 0
IsTruncated text width given answer =
    MatchResult answer
    (λ cell. MatchResult given (λ whole. (text_of_truncated text cell ≡ truncated_text width (text whole)) × (text_width (text whole) ≤ width → cell ≡ Whole whole)) (λ _. ⊥))
    (λ _. MatchResult given (λ whole. width < text_width (text whole)) (λ _. Unit {0}))

-- a call returns what is left of the next cell, cut at the width of its column, as long as the row has one; after a
-- refusal there is none
abbrev pub GivesTruncated : {S C E D : Type 0} → (S → Option (Result C E) → S → Type 0) → (C → List ℕ) → (D → ℕ → ℕ) → TruncatedCells S D → Option (Result (Truncated C) E) → TruncatedCells S D → Type 0
GivesTruncated {S = S} {C = C} {E = E} steps text width before found after =
    (after.dimension ≡ before.dimension)
    × MatchOption found
    ((after.column ≡ before.column) × MatchOption before.cells (after.cells ≡ None) (λ s. (t : S) × steps s None t × (after.cells ≡ Some t)))
    (λ answer.
    (s : S) × (t : S) × (given : Result C E) × (before.cells ≡ Some s) × steps s (Some given) t
    × IsTruncated text (width before.dimension before.column) given answer
    × MatchResult answer (λ _. (after.cells ≡ Some t) × (after.column ≡ next_column before.column)) (λ _. after.cells ≡ None))

-- a call gives the next row, from its first column on
abbrev pub GivesTruncatedRow : {S Row D : Type 0} → (S → Option Row → S → Type 0) → TruncatedRows S D → Option (TruncatedCells Row D) → TruncatedRows S D → Type 0
GivesTruncatedRow {Row = Row} steps before found after =
    (after.dimension ≡ before.dimension)
    × MatchOption found (steps before.rows None after.rows)
    (λ cells. (row : Row) × steps before.rows (Some row) after.rows × (cells.cells ≡ Some row) × (cells.dimension ≡ before.dimension) × (cells.column ≡ 0))
