-- Rows that are made equally long.
use Rattle.std.specs.Prelude.{◌≡◌, ◌+◌, ◌<◌, Err, MatchOption, MatchResult, None, Ok, Option, Result, Some}
use Rattle.grid_records.specs.declared.rows.records.into_records.evened.EvenedCells.{EvenedCells}
use Rattle.grid_records.specs.declared.rows.records.into_records.evened.EvenedRows.{EvenedRows}

-- a call gives the cells of the next row, with the same count of wanted cells for each row
abbrev pub GivesEvened : {S Row : Type 0} → (S → Option Row → S → Type 0) → EvenedRows S → Option (EvenedCells Row) → EvenedRows S → Type 0
GivesEvened {Row = Row} steps before found after =
    (after.columns ≡ before.columns)
    × MatchOption found (steps before.rows None after.rows)
    (λ cells. (row : Row) × steps before.rows (Some row) after.rows × (cells.cells ≡ Some row) × (cells.left ≡ before.columns))

-- the result is none where the row has ended or ends now; else its next cell
abbrev pub EvensOne : {S C E : Type 0} → (S → Option (Result C E) → S → Type 0) → Option S → Option C → Option S → Type 0
EvensOne {S} steps before answer after =
    MatchOption answer ((after ≡ None) × MatchOption before (Unit {0}) (λ s. (t : S) × steps s None t))
    (λ cell. (s : S) × (t : S) × (before ≡ Some s) × (after ≡ Some t) × steps s (Some (Ok cell)) t)

-- a call gives the next cell of the row, or none where the row has ended, as long as one is wanted; where the row
-- refuses instead, so does the call, and no further cell is wanted. Where none is wanted it stays as it is
abbrev pub EvensCell : {S C E : Type 0} → (S → Option (Result C E) → S → Type 0) → EvenedCells S → Option (Result (Option C) E) → EvenedCells S → Type 0
EvensCell {S} steps before found after =
    MatchOption found ((before.left ≡ 0) × (after.left ≡ before.left) × (after.cells ≡ before.cells))
    (λ answer. MatchResult answer (λ cell. (after.left + 1 ≡ before.left) × EvensOne steps before.cells cell after.cells)
    (λ refusal. (0 < before.left) × (after.left ≡ 0) × (s : S) × (t : S) × (before.cells ≡ Some s) × (after.cells ≡ Some t) × steps s (Some (Err refusal)) t))
