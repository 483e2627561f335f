-- How an iterator is shown to give a list.
use Rattle.std.proofs.Common.{◌≡◌, ℕ, List, [], ◌∷◌, ap, arith, length, refl, subst, map, Bool, false}
use Rattle.std.specs.Prelude.{MatchOption, MatchResult, None, Ok, Err, Option, Result, Some}
use Rattle.std.specs.Iterator.{Count, IsFinite}
use Rattle.grid_records_traits.specs.Giving.{Gives, GivesCells, GivesEach, GivesTexts}
use Rattle.grid_records_traits.specs.Giving.{AnswersCell, GivesCellsOf, GivesRow, GivesText, TakesOne}

-- a call gave an item tied to the first that was left, and left the others, or none where none was left
abbrev pub GivesNext : {A B : Type 0} → (A → B → Type 0) → List B → Option A → List B → Type 0
GivesNext {B = B} tie before found after =
    MatchOption found (before ≡ []) (λ x. (y : B) × tie x y × (before ≡ y ∷ after))

-- an iterator that shows the list of what is left gives that list
pub each_left : {S A B : Type 0} (steps : S → Option A → S → Type 0) (tie : A → B → Type 0) (rest : S → List B) →
    ((s : S) (r : Option A) (t : S) → steps s r t → GivesNext tie (rest s) r (rest t)) →
    (s : S) (ys : List B) → rest s ≡ ys → GivesEach steps tie s ys
each_left steps tie rest goes s [] is = λ x t step.
    let next = goes s (Some x) t step in
    cc (is, next.2)
each_left steps tie rest goes s (y ∷ ys) is = (
  λ t step. let next = goes s None t step in cc (is, next),
  λ x t step.
      let next = goes s (Some x) t step in
      let first : next.0 ≡ y = cc (is, next.2) in
      (subst (λ v. tie x v) first next.1, each_left steps tie rest goes t ys (cc (is, next.2))),
)

-- items that are tied by one relation are tied by another that follows
pub each_tied : {S A B : Type 0} (steps : S → Option A → S → Type 0) (tie other : A → B → Type 0) →
    ((x : A) (y : B) → tie x y → other x y) → (s : S) (ys : List B) → GivesEach steps tie s ys → GivesEach steps other s ys
each_tied steps tie other follows s [] gives = gives
each_tied steps tie other follows s (y ∷ ys) gives =
    (gives.0, λ x t step. let next = gives.1 x t step in (follows x y next.0, each_tied steps tie other follows t ys next.1))

-- cells that are given are returned
pub each_answered : {S R C : Type 0} (E : Type 0) (steps : S → Option C → S → Type 0) (inside : R → S) (text : C → List ℕ) (can_fail : Bool) (s : R) (row : List (List ℕ)) →
    GivesEach steps (λ cell wanted. text cell ≡ wanted) (inside s) row →
    GivesCells {E = E} (λ s r t. AnswersCell steps (inside s) r (inside t)) text can_fail s row
each_answered E steps inside text can_fail s [] gives =
    λ answer t. elim answer as (λ v. AnswersCell steps (inside s) (Some v) (inside t) → ⊥) [ Ok cell ↦ λ step. gives cell (inside t) step | Err _ ↦ λ never. never ]
each_answered E steps inside text can_fail s (wanted ∷ row) gives = (
  λ t step. gives.0 (inside t) step,
  λ cell t step. let next = gives.1 cell (inside t) step in (next.0, each_answered E steps inside text can_fail t row next.1),
  λ refusal t never. absurd never,
)

-- an iterator that refuses none gives the cells of a row where its results are these cells
pub each_cell_given : {S C E : Type 0} (steps : S → Option (Result C E) → S → Type 0) (text : C → List ℕ) (can_fail : Bool) (s : S) (row : List (List ℕ)) →
    GivesEach steps (λ answer wanted. MatchResult answer (λ cell. text cell ≡ wanted) (λ _. ⊥)) s row → GivesCells steps text can_fail s row
each_cell_given steps text can_fail s [] gives = gives
each_cell_given steps text can_fail s (wanted ∷ row) gives = (
  gives.0,
  λ cell t step. let next = gives.1 (Ok cell) t step in (next.0, each_cell_given steps text can_fail t row next.1),
  λ refusal t step. absurd (gives.1 (Err refusal) t step).0,
)

-- rows that are given, and what they become
pub each_becomes : {S R Row Cells I Texts : Type 0} (steps : S → Option Row → S → Type 0) (becomes : Row → I → Type 0) (inside : R → S) (cells_of : Cells → I) (tie : Row → Texts → Type 0) (wanted : Cells → Texts → Type 0) →
    ((row : Row) (cells : Cells) (texts : Texts) → tie row texts → becomes row (cells_of cells) → wanted cells texts) →
    (s : R) (rows : List Texts) → GivesEach steps tie (inside s) rows →
    GivesEach {A = Cells} (λ s r t. GivesCellsOf steps becomes (inside s) r cells_of (inside t)) wanted s rows
each_becomes steps becomes inside cells_of tie wanted follows s [] gives = λ cells t step. gives step.0 (inside t) step.1
each_becomes steps becomes inside cells_of tie wanted follows s (texts ∷ rows) gives = (
  λ t step. gives.0 (inside t) step,
  λ cells t step.
      let next = gives.1 step.0 (inside t) step.1 in
      (follows step.0 cells texts next.0 step.2, each_becomes steps becomes inside cells_of tie wanted follows t rows next.1),
)

-- the same, of rows whose cells are given
pub each_given : {S R Row Cells I C : Type 0} (E : Type 0) (row_steps : S → Option Row → S → Type 0) (becomes : Row → I → Type 0) (inside : R → S) (cells_of : Cells → I)
    (cell_steps : I → Option C → I → Type 0) (text : C → List ℕ) (can : Cells → Type 0) (left : Cells → Count) (can_fail : Bool) (texts_of : Row → List (List ℕ)) →
    ((cells : Cells) → can cells × IsFinite (left cells)) → ((row : Row) (it : I) → becomes row it → GivesEach cell_steps (λ cell wanted. text cell ≡ wanted) it (texts_of row)) →
    (s : R) (rows : List (List (List ℕ))) → GivesEach row_steps (λ row texts. texts_of row ≡ texts) (inside s) rows →
    GivesEach {A = Cells} (λ s r t. GivesCellsOf row_steps becomes (inside s) r cells_of (inside t))
    (GivesTexts {E = E} can left (λ s r t. AnswersCell cell_steps (cells_of s) r (cells_of t)) text can_fail) s rows
each_given E row_steps becomes inside cells_of cell_steps text can left can_fail texts_of ends cells_are =
    each_becomes row_steps becomes inside cells_of (λ row texts. texts_of row ≡ texts) _
    (λ row cells texts same became.
    record {
      can_next = (ends cells).0;
      ends = (ends cells).1;
      each = each_answered E cell_steps cells_of text can_fail cells texts (subst (λ v. GivesEach cell_steps (λ cell wanted. text cell ≡ wanted) (cells_of cells) v) same (cells_are row (cells_of cells) became));
    })

-- an iterator that shows the values that are left gives what f makes of them
pub each_mapped : {S A V B : Type 0} (steps : S → Option A → S → Type 0) (view : A → V) (rest : S → List V) (f : V → B) →
    ((s t : S) → steps s None t → rest s ≡ []) → ((s : S) (x : A) (t : S) → steps s (Some x) t → rest s ≡ view x ∷ rest t) →
    (s : S) (ys : List B) → map f (rest s) ≡ ys → GivesEach steps (λ x y. f (view x) ≡ y) s ys
each_mapped {S} {A} {V} {B} steps view rest f ends goes s ys is =
    each_left steps (λ x y. f (view x) ≡ y) (λ s. map f (rest s))
    (λ s r t. elim r as (λ v. steps s v t → GivesNext (λ x y. f (view x) ≡ y) (map f (rest s)) v (map f (rest t))) [
      | None ↦ λ step. ap (map f) (ends s t step)
      | Some x ↦ λ step. (f (view x), refl, ap (map f) (goes s x t step))
    ])
    s ys is

pub empty : {A : Type 0} (xs : List A) → length xs ≡ 0 → xs ≡ []
empty [] h = refl
empty (x ∷ xs) h = absurd (omega (arith, h))

-- what gives a list gives an equal one
pub gives_list : {S A B : Type 0} {can : S → Type 0} {left : S → Count} {steps : S → Option A → S → Type 0} {tie : A → B → Type 0} {s : S} {ys zs : List B} →
    ys ≡ zs → Gives can left steps tie s ys → Gives can left steps tie s zs
gives_list {can = can} {left = left} {steps = steps} {tie = tie} {s = s} same gives = subst (λ v. Gives can left steps tie s v) same gives

-- and the same of rows, where as many may be refused
pub gives_rows : {R S C E : Type 0} {row_can : R → Type 0} {row_left : R → Count} {row_steps : R → Option S → R → Type 0} {can : S → Type 0} {left : S → Count} {steps : S → Option (Result C E) → S → Type 0} {text : C → List ℕ} {r : R}
    (before after : Bool) (ys zs : List (List (List ℕ))) → before ≡ after → ys ≡ zs → Gives row_can row_left row_steps (GivesTexts can left steps text before) r ys → Gives row_can row_left row_steps (GivesTexts can left steps text after) r zs
gives_rows {row_can = row_can} {row_left = row_left} {row_steps = row_steps} {can = can} {left = left} {steps = steps} {text = text} {r = r} before after ys zs same is gives =
    subst (λ v. Gives row_can row_left row_steps (GivesTexts can left steps text v) r zs) same (subst (λ v. Gives row_can row_left row_steps (GivesTexts can left steps text before) r v) is gives)

-- the cells of a row
module _ {S C : Type 0} (E : Type 0) (text : C → List ℕ) (left_of : S → ℕ) (texts_of : S → List (List ℕ)) where
  abbrev CellSteps : S → Option (Result C E) → S → Type 0
  CellSteps s r t = TakesOne (left_of s) r (left_of t) × GivesText text (texts_of s) r (texts_of t)

  next_cell : (s : S) (r : Option (Result C E)) (t : S) → CellSteps s r t → GivesNext (λ answer wanted. MatchResult answer (λ cell. text cell ≡ wanted) (λ _. ⊥)) (texts_of s) r (texts_of t)
  next_cell s None t step = step.1.0
  next_cell s (Some (Ok cell)) t step = (text cell, refl, step.1)
  next_cell s (Some (Err error)) t step = absurd step.1

  pub each_cell : (s : S) → GivesCells CellSteps text false s (texts_of s)
  each_cell s = each_cell_given CellSteps text false s (texts_of s) (each_left CellSteps _ texts_of next_cell s (texts_of s) refl)

-- the rows, each of which gives its texts
module _ {S Row : Type 0} (columns_of count_of : S → ℕ) (texts_of : Row → List (List ℕ)) (rows_of : S → List (List (List ℕ))) (tie : Row → List (List ℕ) → Type 0) (tied : (row : Row) → tie row (texts_of row)) where
  abbrev RowSteps : S → Option Row → S → Type 0
  RowSteps s r t = (columns_of t ≡ columns_of s) × TakesOne (count_of s) r (count_of t) × GivesRow texts_of (rows_of s) r (rows_of t)

  next_row : (s : S) (r : Option Row) (t : S) → RowSteps s r t → GivesNext tie (rows_of s) r (rows_of t)
  next_row s None t step = step.2.0
  next_row s (Some row) t step = (texts_of row, tied row, step.2)

  pub each_row : (s : S) → GivesEach RowSteps tie s (rows_of s)
  each_row s = each_left RowSteps tie rows_of next_row s (rows_of s) refl
