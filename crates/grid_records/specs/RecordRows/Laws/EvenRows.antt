-- Rows that are made equally long, from rows of any length.
use Rattle.std.proofs.Common.{◌≡◌, ◌∙◌, ◌-◌, ℕ, zero, suc, Bool, List, [], ◌∷◌, ap, arith, length, map, refl, replicate, subst, sym}
use Rattle.std.specs.Prelude.{Err, IfSome, MatchOption, None, Ok, Option, Result, Some}
use Rattle.std.specs.Iterator.{Count, at_most}
use Rattle.grid_records_traits.specs.Cells.{text_or_empty}
use Rattle.grid_records.specs.RecordRows.EvenRows.{EvensCell, EvensOne, GivesEvened}
use Rattle.grid_records.specs.declared.rows.records.into_records.evened.EvenedCells.{EvenedCells}
use Rattle.grid_records.specs.declared.rows.records.into_records.evened.EvenedRows.{EvenedRows}
use Rattle.grid_records_traits.specs.Giving.{Gives, GivesCells, GivesEach, GivesTexts, HasEnded}
use Rattle.grid_records_traits.specs.Rows.{evened, evened_row}

-- the same, text by text
fit : ℕ → List (List ℕ) → List (List ℕ)
fit zero row = []
fit (suc n) [] = [] ∷ replicate n []
fit (suc n) (text ∷ row) = text ∷ fit n row

fit-evened_row : (n : ℕ) (row : List (List ℕ)) → fit n row ≡ evened_row n row
unfolding fit
fit-evened_row zero row =
    let none : 0 - length row ≡ 0 = omega arith in
    rw none refl
fit-evened_row (suc n) [] =
    let all : suc n - 0 ≡ suc n = omega arith in
    rw all refl
fit-evened_row (suc n) (text ∷ row) =
    let same : suc n - suc (length row) ≡ n - length row = omega arith in
    rw same (ap (λ v. text ∷ v) (fit-evened_row n row))

module _ {S C E : Type 0} (steps : S → Option (Result C E) → S → Type 0) (text : C → List ℕ) (can_fail : Bool) where
  One : Option S → Option C → Option S → Type 0
  One before answer after = EvensOne steps before answer after

  blank : (before after : Option S) (answer : Option C) → before ≡ None → One before answer after → (answer ≡ None) × (after ≡ None)
  unfolding One
  blank before after None is step = (refl, step.0)
  blank before after (Some cell) is step = absurd (cc (is, step.2))

  ended : (before after : Option S) (answer : Option C) (it : S) → before ≡ Some it → HasEnded steps it → One before answer after → (answer ≡ None) × (after ≡ None)
  unfolding One
  ended before after None it is none step = (refl, step.0)
  ended before after (Some cell) it is none step =
      let same : step.0 ≡ it = cc (is, step.2) in
      absurd (none (Ok cell) step.1 (subst (λ v. steps v (Some (Ok cell)) step.1) same step.4))

  record Goes (answer : Option C) (after : Option S) (wanted : List ℕ) (row : List (List ℕ)) : Type 0 where
    rest : S
    is : after ≡ Some rest
    same : text_or_empty text answer ≡ wanted
    gives : GivesCells steps text can_fail rest row

  goes : (before after : Option S) (answer : Option C) (it : S) (wanted : List ℕ) (row : List (List ℕ)) → before ≡ Some it →
      GivesCells steps text can_fail it (wanted ∷ row) → One before answer after → Goes answer after wanted row
  unfolding One
  goes before after None it wanted row is gives step =
      let last = subst (λ v. MatchOption v (Unit {0}) (λ s. (t : S) × steps s None t)) is step.1 in
      absurd (gives.0 last.0 last.1)
  goes before after (Some cell) it wanted row is gives step =
      let same : step.0 ≡ it = cc (is, step.2) in
      let next = gives.1 cell step.1 (subst (λ v. steps v (Some (Ok cell)) step.1) same step.4) in
      record { rest = step.1; is = step.3; same = next.0; gives = next.1 }

  -- where no cell is wanted, none comes
  over : (s : EvenedCells S) → s.left ≡ 0 → HasEnded (EvensCell steps) s
  over s none (Ok cell) t step = omega (arith, step.0, none)
  over s none (Err refusal) t step = omega (arith, step.0, none)

  blanks : (n : ℕ) (s : EvenedCells S) → s.cells ≡ None → s.left ≡ n → GivesCells (EvensCell steps) (text_or_empty text) can_fail s (replicate n [])
  unfolding One
  blanks zero s none left = over s left
  blanks (suc n) s none left = (
    λ t step. omega (arith, step.0, left),
    λ cell t step.
        let next = blank s.cells t.cells cell none step.1 in
        (ap (text_or_empty text) next.0, blanks n t next.1 (omega (arith, step.0, left))),
    λ refusal t step. absurd (cc (none, step.4)),
  )

  fits : (n : ℕ) (row : List (List ℕ)) (s : EvenedCells S) (it : S) → s.cells ≡ Some it → s.left ≡ n → GivesCells steps text can_fail it row →
      GivesCells (EvensCell steps) (text_or_empty text) can_fail s (fit n row)
  unfolding One fit
  fits zero row s it is left gives = over s left
  fits (suc n) [] s it is left gives = (
    λ t step. omega (arith, step.0, left),
    λ cell t step.
        let next = ended s.cells t.cells cell it is gives step.1 in
        (ap (text_or_empty text) next.0, blanks n t next.1 (omega (arith, step.0, left))),
    λ refusal t step.
        let same : step.2 ≡ it = cc (is, step.4) in
        absurd (gives (Err refusal) step.3 (subst (λ v. steps v (Some (Err refusal)) step.3) same step.6)),
  )
  fits (suc n) (wanted ∷ row) s it is left gives = (
    λ t step. omega (arith, step.0, left),
    λ cell t step.
        let next = goes s.cells t.cells cell it wanted row is gives step.1 in
        (next.same, fits n row t next.rest next.is (omega (arith, step.0, left)) next.gives),
    λ refusal t step.
        let same : step.2 ≡ it = cc (is, step.4) in
        let next = gives.2 refusal step.3 (subst (λ v. steps v (Some (Err refusal)) step.3) same step.6) in
        (next.0, over t step.1),
  )

  -- a row of which n cells are wanted
  pub gives_evened : {can : S → Type 0} {left : S → Count} (s : EvenedCells S) (it : S) (n : ℕ) (row : List (List ℕ)) → s.cells ≡ Some it → s.left ≡ n → GivesTexts can left steps text can_fail it row →
      GivesTexts (λ s. IfSome s.cells can) (λ s. at_most s.left) (EvensCell steps) (text_or_empty text) can_fail s (evened_row n row)
  gives_evened {can} {left} s it n row is count gives =
      record {
        can_next = subst (λ v. IfSome v can) (sym is) gives.can_next;
        ends = tt;
        each = subst (λ v. GivesCells (EvensCell steps) (text_or_empty text) can_fail s v) (fit-evened_row n row) (fits n row s it is count gives.each);
      }

-- the rows of which n cells are wanted
pub each_evened : {S Row : Type 0} (steps : S → Option Row → S → Type 0)
    (tie : Row → List (List ℕ) → Type 0) (wanted : EvenedCells Row → List (List ℕ) → Type 0) (n : ℕ) →
    ((row : Row) (cells : EvenedCells Row) (texts : List (List ℕ)) → tie row texts → cells.cells ≡ Some row → cells.left ≡ n → wanted cells (evened_row n texts)) →
    (s : EvenedRows S) (rows : List (List (List ℕ))) → s.columns ≡ n → GivesEach steps tie s.rows rows →
    GivesEach (GivesEvened steps) wanted s (map (evened_row n) rows)
each_evened steps tie wanted n follows s [] is gives = λ cells t step. gives step.1.0 t.rows step.1.1
each_evened steps tie wanted n follows s (texts ∷ rows) is gives = (
  λ t step. gives.0 t.rows step.1,
  λ cells t step.
      let next = gives.1 step.1.0 t.rows step.1.1 in
      (follows step.1.0 cells texts next.0 step.1.2 (step.1.3 ∙ is), each_evened steps tie wanted n follows t rows (step.0 ∙ is) next.1),
)

-- and where they are given, so are those
pub gives_evened_rows : {S Row C E : Type 0} (row_steps : S → Option Row → S → Type 0) (steps : Row → Option (Result C E) → Row → Type 0) (text : C → List ℕ)
    {row_can : S → Type 0} {row_left : S → Count} {can : Row → Type 0} {left : Row → Count} {can_fail : Bool} {rows : List (List (List ℕ))} (s : EvenedRows S) →
    Gives row_can row_left row_steps (GivesTexts can left steps text can_fail) s.rows rows →
    Gives (λ s. row_can s.rows) (λ s. row_left s.rows) (GivesEvened row_steps)
    (GivesTexts (λ cells. IfSome cells.cells can) (λ cells. at_most cells.left) (EvensCell steps) (text_or_empty text) can_fail) s (evened s.columns rows)
gives_evened_rows row_steps steps text {can_fail = can_fail} {rows = rows} s gives =
    record {
      can_next = gives.can_next;
      ends = gives.ends;
      each = each_evened row_steps _ _ s.columns
          (λ row cells texts given is count. gives_evened steps text can_fail cells row s.columns texts is count given) s rows refl gives.each;
    }
