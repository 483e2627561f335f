-- A source whose first rows are kept.
use Rattle.std.specs.Prelude.{◌≡◌, MatchOption, None, Option, Some}
use Rattle.std.specs.Global.{Global, Vec}
use Rattle.std.specs.declared.vec.IntoIter.{IntoIter}
use Rattle.either.specs.Either.{MatchEither}
use Rattle.either.specs.declared.Either.{Either}
use Rattle.grid_records_traits.specs.declared.records.into_records.given.GivenRows.{GivenRows}
use Rattle.grid_records.specs.declared.rows.records.into_records.buf_records.BufferedRows.{BufferedRows}

-- f of the rest of the source; `none` where there is no rest
abbrev pub of_rest : {S B : Type 0} → (S → B) → B → Option S → B
of_rest f none None = none
of_rest f none (Some rest) = f rest

-- the kept rows, and the rest of the source where there is one
pub record BufferedParts (K R : Type 0) : Type 0 where
  pub kept : K
  pub rest : Option R

-- a call gives the next kept row, and after the last of them the next row of the rest
abbrev pub GivesBuffered : {K R Kept Rest : Type 0} → (K → Option Kept → K → Type 0) → (R → Option Rest → R → Type 0) → BufferedParts K R → Option (Either Kept Rest) → BufferedParts K R → Type 0
GivesBuffered {R = R} kept_steps rest_steps before found after =
    MatchOption found
    (kept_steps before.kept None after.kept
    × MatchOption before.rest (after.rest ≡ None) (λ it. (then : R) × rest_steps it None then × (after.rest ≡ Some then)))
    (λ cells.
    MatchEither cells
    (λ row. kept_steps before.kept (Some row) after.kept × (after.rest ≡ before.rest))
    (λ row. kept_steps before.kept None after.kept × ((it : R) × (then : R) × (before.rest ≡ Some it) × (after.rest ≡ Some then) × rest_steps it (Some row) then)))

-- the same of rows that are left of a source whose first rows are kept
abbrev pub GivesKeptFirst : {C R Kept Rest : Type 0} → (GivenRows (IntoIter (Vec C) Global) → Option Kept → GivenRows (IntoIter (Vec C) Global) → Type 0) → (R → Option Rest → R → Type 0) → BufferedRows C R → Option (Either Kept Rest) → BufferedRows C R → Type 0
GivesKeptFirst kept_steps rest_steps before found after =
    GivesBuffered kept_steps rest_steps (record { kept = before.kept; rest = before.rest }) found (record { kept = after.kept; rest = after.rest })
