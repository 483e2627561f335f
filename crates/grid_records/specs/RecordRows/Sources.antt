-- How long rows are, and what calls give of rows that are limited or empty.
use Rattle.std.specs.Iterator.Adapters.{take_count, take_source}
use Rattle.std.specs.declared.iter.Take.{Take}
use Rattle.std.specs.Borrow.{Bor}
use Rattle.std.specs.Prelude.{◌≡◌, ◌+◌, All, List, MatchOption, MatchResult, None, Option, Result, Some, Vec, [], ◌∷◌, vec_len, ℕ}
use Rattle.grid_records.specs.declared.rows.records.empty.EmptyCells.{EmptyCells}
use Rattle.grid_records.specs.declared.rows.records.empty.EmptyRows.{EmptyRows}
use Rattle.grid_records.specs.declared.rows.records.into_records.limit_columns.LimitedRows.{LimitedRows}

-- how many cells the first row has, 0 where there is none
abbrev pub columns_of : {T Z : Type 0} → List (Vec T Z) → ℕ
columns_of [] = 0
columns_of (row ∷ rows) = vec_len row

-- each row has as many cells as the first
abbrev pub AreEquallyLong : {T Z : Type 0} → List (Vec T Z) → Type 0
AreEquallyLong rows = All (λ row. vec_len row ≡ columns_of rows) rows

-- a call gives the first cells of the next row, at most the same count for each row
abbrev pub GivesTaken : {S Cells : Type 0} → (S → Option Cells → S → Type 0) → LimitedRows S → Option (Take Cells) → LimitedRows S → Type 0
GivesTaken steps before found after =
    (after.limit ≡ before.limit)
    × MatchOption found (steps before.rows None after.rows) (λ cells. steps before.rows (Some (take_source cells)) after.rows × (take_count cells ≡ before.limit))

-- a call gives an empty text as long as one is left, and then stays as it is
abbrev pub GivesEmptyText : {E : Type 0} → EmptyCells → Option (Result (Bor (List ℕ)) E) → EmptyCells → Type 0
GivesEmptyText before found after =
    MatchOption found ((before.left ≡ 0) × (after.left ≡ before.left))
    (λ answer. (after.left + 1 ≡ before.left) × MatchResult answer (λ text. text.now ≡ []) (λ _. ⊥))

-- a call gives a row of empty texts as long as one is left, and then stays as it is
abbrev pub GivesEmptyCells : EmptyRows → Option EmptyCells → EmptyRows → Type 0
GivesEmptyCells before found after =
    MatchOption found ((before.left ≡ 0) × (after.left ≡ before.left) × (after.columns ≡ before.columns))
    (λ cells. (after.left + 1 ≡ before.left) × (after.columns ≡ before.columns) × (cells.left ≡ before.columns))
