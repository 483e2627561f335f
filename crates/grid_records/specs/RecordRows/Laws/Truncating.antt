-- What is left of the cells of a source.
use Rattle.std.proofs.Common.{◌≡◌, ◌≤◌, ◌<◌, ◌∙◌, ℕ, Bool, true, List, [], ◌∷◌, ap, arith, false, nat_le, map, refl, subst, sym}
use Rattle.std.proofs.lemmas.Bool.{le-leb, lt-leb}
use Rattle.std.specs.Prelude.{Err, IfErr, IfOk, IfSome, MatchOption, None, Ok, Option, Result, Some}
use Rattle.std.specs.Iterator.{Count, IsFinite, at_most}
use Rattle.grid_records.specs.RecordRows.Buffering.{of_rest}
use Rattle.grid_records_measure.specs.CutTexts.{cut_at}
use Rattle.grid_records_measure.specs.TextLines.{text_width}
use Rattle.grid_records_traits.specs.Giving.{Gives, GivesCells, GivesEach, GivesTexts, HasEnded}
use Rattle.grid_records.specs.RecordRows.Truncating.{GivesTruncated, GivesTruncatedRow, IsTruncated, next_column, text_of_truncated, truncated_row, truncated_rows, truncated_text}
use Rattle.grid_records.specs.declared.rows.records.into_records.truncate_content.Truncated.{Truncated}
use Rattle.grid_records.specs.declared.rows.records.into_records.truncate_content.Truncated.TheVariants.{Whole}
use Rattle.grid_records.specs.declared.rows.records.into_records.truncate_content.TruncatedCells.{TruncatedCells}
use Rattle.grid_records.specs.declared.rows.records.into_records.truncate_content.TruncatedRows.{TruncatedRows}

module _ {S C E D : Type 0} (steps : S → Option (Result C E) → S → Type 0) (text : C → List ℕ) (can_fail : Bool) (width : D → ℕ → ℕ) where
  -- the cell that came, of which this is left
  came : (s t : S) (given : Result C E) (cell : Truncated C) (w : ℕ) → steps s (Some given) t → IsTruncated text w given (Ok cell) →
      (whole : C) × steps s (Some (Ok whole)) t × (text_of_truncated text cell ≡ truncated_text w (text whole))
  came s t (Ok whole) cell w step is = (whole, step, is.0)
  came s t (Err _) cell w step never = absurd never

  ended_truncated : (s : TruncatedCells S D) → s.cells ≡ None → HasEnded (GivesTruncated steps text width) s
  ended_truncated s none = λ answer t step. cc (none, step.1.3)

  each_truncated : (d : D) (column : ℕ) (row : List (List ℕ)) (s : TruncatedCells S D) (it : S) → s.dimension ≡ d → s.column ≡ column → s.cells ≡ Some it → GivesCells steps text can_fail it row →
      GivesCells (GivesTruncated steps text width) (text_of_truncated text) true s (truncated_row (width d) column row)
  each_truncated d column [] s it same at is gives = λ answer t step.
      let first : step.1.0 ≡ it = cc (is, step.1.3) in
      gives step.1.2 step.1.1 (subst (λ v. steps v (Some step.1.2) step.1.1) first step.1.4)
  each_truncated d column (wanted ∷ row) s it same at is gives = (
    λ t step.
        let last = subst (λ v. MatchOption v (t.cells ≡ None) (λ s. (u : S) × steps s None u × (t.cells ≡ Some u))) is step.1.1 in
        gives.0 last.0 last.1,
    λ cell t step.
        let first : step.1.0 ≡ it = cc (is, step.1.3) in
        let wide : width s.dimension s.column ≡ width d column = ap (λ v. width v s.column) same ∙ ap (width d) at in
        let found = came it step.1.1 step.1.2 cell (width s.dimension s.column) (subst (λ v. steps v (Some step.1.2) step.1.1) first step.1.4) step.1.5 in
        let next = gives.1 found.0 step.1.1 found.1 in (
          found.2 ∙ ap (λ v. truncated_text v (text found.0)) wide ∙ ap (truncated_text (width d column)) next.0,
          each_truncated d (next_column column) row t step.1.1 (step.0 ∙ same) (step.1.6.1 ∙ ap next_column at) step.1.6.0 next.1,
        ),
    λ refusal t step. (refl, ended_truncated t step.1.6),
  )

  -- the cells of a row, from its first column on
  gives_truncated : {can : S → Type 0} {left : S → Count} (d : D) (row : List (List ℕ)) (s : TruncatedCells S D) (it : S) → s.dimension ≡ d → s.column ≡ 0 → s.cells ≡ Some it → GivesTexts can left steps text can_fail it row →
      GivesTexts (λ s. IfSome s.cells can) (λ s. of_rest left (at_most 0) s.cells) (GivesTruncated steps text width) (text_of_truncated text) true s (truncated_row (width d) 0 row)
  gives_truncated {can} {left} d row s it same at is gives = record {
    can_next = subst (λ v. IfSome v can) (sym is) gives.can_next;
    ends = subst (λ v. IsFinite (of_rest left (at_most 0) v)) (sym is) gives.ends;
    each = each_truncated d 0 row s it same at is gives.each;
  }

-- the rows
each_truncated_row : {S Row D : Type 0} (steps : S → Option Row → S → Type 0)
    (tie : Row → List (List ℕ) → Type 0) (wanted : TruncatedCells Row D → List (List ℕ) → Type 0) (width : ℕ → ℕ) (d : D) →
    ((row : Row) (cells : TruncatedCells Row D) (texts : List (List ℕ)) → tie row texts → cells.dimension ≡ d → cells.column ≡ 0 → cells.cells ≡ Some row → wanted cells (truncated_row width 0 texts)) →
    (s : TruncatedRows S D) (rows : List (List (List ℕ))) → s.dimension ≡ d → GivesEach steps tie s.rows rows →
    GivesEach (GivesTruncatedRow steps) wanted s (map (truncated_row width 0) rows)
each_truncated_row steps tie wanted width d follows s [] same gives = λ cells t step. gives step.1.0 t.rows step.1.1
each_truncated_row steps tie wanted width d follows s (texts ∷ rows) same gives = (
  λ t step. gives.0 t.rows step.1,
  λ cells t step.
      let next = gives.1 step.1.0 t.rows step.1.1 in (
        follows step.1.0 cells texts next.0 (step.1.3 ∙ same) step.1.4 step.1.2,
        each_truncated_row steps tie wanted width d follows t rows (step.0 ∙ same) next.1,
      ),
)

-- all rows of a source, cut
pub truncated_rows_give : {R S C E D : Type 0} {row_can : R → Type 0} {row_left : R → Count} {can : S → Type 0} {left : S → Count} {can_fail : Bool} {rows : List (List (List ℕ))}
    (row_steps : R → Option S → R → Type 0) (steps : S → Option (Result C E) → S → Type 0) (text : C → List ℕ) (width : D → ℕ → ℕ) (s : TruncatedRows R D) →
    Gives row_can row_left row_steps (GivesTexts can left steps text can_fail) s.rows rows →
    Gives (λ s. row_can s.rows) (λ s. row_left s.rows) (GivesTruncatedRow row_steps)
    (GivesTexts (λ cells. IfSome cells.cells can) (λ cells. of_rest left (at_most 0) cells.cells) (GivesTruncated steps text width)
    (text_of_truncated text) true) s (truncated_rows (width s.dimension) rows)
truncated_rows_give {can_fail = can_fail} {rows = rows} row_steps steps text width s gives =
    record {
      can_next = gives.can_next;
      ends = gives.ends;
      each = each_truncated_row row_steps _ _ (width s.dimension) s.dimension
          (λ row cells texts given same at is. gives_truncated steps text can_fail width s.dimension texts cells row same at is given) s rows refl gives.each;
    }

-- a text that measures at most `width` columns stays
pub whole_text : (width found : ℕ) (text : List ℕ) → found ≡ text_width text → found ≤ width → text ≡ truncated_text width text
whole_text width found text is le =
    let yes : nat_le (text_width text) width ≡ true = le-leb (text_width text) width (omega (arith, is, le)) in
    rw yes refl

-- and of a wider one the cut is left
pub cut_is_left : (width found : ℕ) (text shown bytes out : List ℕ) → found ≡ text_width text → width < found → shown ≡ text →
    bytes ≡ cut_at width shown → out ≡ bytes → out ≡ truncated_text width text
cut_is_left width found text shown bytes out is lt same cut owned =
    let no : nat_le (text_width text) width ≡ false = lt-leb (text_width text) width (omega (arith, is, lt)) in
    rw no (owned ∙ cut ∙ ap (cut_at width) same)

-- a cut is requested only of a wider text
pub is_wider : {T E : Type 0} (result : Result T E) (width found : ℕ) (text : List ℕ) → found ≡ text_width text → width < found → IfErr result (λ _. width < text_width text)
is_wider (Ok _) width found text is lt = tt
is_wider (Err _) width found text is lt = omega (arith, is, lt)

-- what is left of a cell that came
pub is_left : {C E : Type 0} (text : C → List ℕ) (width found : ℕ) (cell : C) (out : Result (Truncated C) E) → found ≡ width → IfOk out (λ kept. text_of_truncated text kept ≡ truncated_text found (text cell)) →
    (text_width (text cell) ≤ found → out ≡ Ok (Whole cell)) → IfErr out (λ _. found < text_width (text cell)) → IsTruncated text width (Ok cell) out
is_left text width found cell (Ok kept) wide is whole _ =
    (is ∙ ap (λ v. truncated_text v (text cell)) wide, λ fits. cc (whole (subst (λ v. text_width (text cell) ≤ v) (sym wide) fits)))
is_left text width found cell (Err _) wide _ _ wider = subst (λ v. v < text_width (text cell)) wide wider

-- a cell that fits is no wider
pub fits_whole : {C E : Type 0} (text : C → List ℕ) (width found : ℕ) (cell : C) (out : Result (Truncated C) E) → found ≡ text_width (text cell) → width < found →
    text_width (text cell) ≤ width → out ≡ Ok (Whole cell)
fits_whole text width found cell out is lt fits = absurd (omega (arith, is, lt, fits))
