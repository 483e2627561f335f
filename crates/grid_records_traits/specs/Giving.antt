-- Iterators that give a list, and iterators that give rows of texts.
use Rattle.std.specs.Prelude.{◌≡◌, ◌+◌, ℕ, Bool, true, List, [], ◌∷◌, MatchOption, MatchResult, Option, None, Some, Result, Ok, Err, drop}
use Rattle.std.specs.Iterator.{Count, IsFinite}
use Rattle.std.specs.declared.iter.Iterator.{Ghosts as Calls}

-- nothing comes any more
abbrev pub HasEnded : {S A : Type 0} → (S → Option A → S → Type 0) → S → Type 0
HasEnded {S} {A} steps s = (x : A) (t : S) → ¬ (steps s (Some x) t)

-- every run of calls from s gives as many items as the list has, each tied to the element at its place, and then `None`
abbrev pub GivesEach : {S A B : Type 0} → (S → Option A → S → Type 0) → (A → B → Type 0) → S → List B → Type 0
GivesEach steps tie s [] = HasEnded steps s
GivesEach {S} {A} steps tie s (y ∷ ys) =
    ((t : S) → ¬ (steps s None t)) × ((x : A) (t : S) → steps s (Some x) t → tie x y × GivesEach steps tie t ys)

-- the iterator can be advanced, ends, and gives the list
pub record Gives {S A B : Type 0} (can : S → Type 0) (left : S → Count) (steps : S → Option A → S → Type 0) (tie : A → B → Type 0) (s : S) (ys : List B) : Type 0 where
  pub can_next : can s
  pub ends : IsFinite (left s)
  pub each : GivesEach steps tie s ys

-- every run of calls from s returns a cell with each of the texts in order, and then `None`; where one may come, a
-- refusal may come in a cell's place, and it ends the row
abbrev pub GivesCells : {S C E : Type 0} → (S → Option (Result C E) → S → Type 0) → (C → List ℕ) → Bool → S → List (List ℕ) → Type 0
GivesCells steps text can_fail s [] = HasEnded steps s
GivesCells {S} {C} {E} steps text can_fail s (wanted ∷ row) =
    ((t : S) → ¬ (steps s None t))
    × ((cell : C) (t : S) → steps s (Some (Ok cell)) t → (text cell ≡ wanted) × GivesCells steps text can_fail t row)
    × ((refusal : E) (t : S) → steps s (Some (Err refusal)) t → (can_fail ≡ true) × HasEnded steps t)

-- the iterator can be advanced, ends, and gives the cells of a row
pub record GivesTexts {S C E : Type 0} (can : S → Type 0) (left : S → Count) (steps : S → Option (Result C E) → S → Type 0) (text : C → List ℕ) (can_fail : Bool) (s : S) (row : List (List ℕ)) : Type 0 where
  pub can_next : can s
  pub ends : IsFinite (left s)
  pub each : GivesCells steps text can_fail s row

-- an iterator over rows gives iterators over cells, which give the cells of the rows
abbrev pub GivesRows : {R S C E : Type 0} → Calls R S → Calls S (Result C E) → (C → List ℕ) → Bool → R → List (List (List ℕ)) → Type 0
GivesRows of_rows of_cells text can_fail r rows =
    Gives of_rows.can_next of_rows.remaining of_rows.next_gives
    (GivesTexts of_cells.can_next of_cells.remaining of_cells.next_gives text can_fail) r rows

-- of the rows that were left the first is gone, and whether a cell may be refused stays
abbrev pub HasPassedOne : List (List (List ℕ)) → Bool → List (List (List ℕ)) → Bool → Type 0
HasPassedOne before can_fail after can_fail_then = (after ≡ drop 1 before) × (can_fail_then ≡ can_fail)

-- a call returns the next cell, and refuses none
abbrev pub AnswersCell : {S C E : Type 0} → (S → Option C → S → Type 0) → S → Option (Result C E) → S → Type 0
AnswersCell steps s found t =
    MatchOption found (steps s None t) (λ answer. MatchResult answer (λ cell. steps s (Some cell) t) (λ _. ⊥))

-- a call gives what the next row becomes
abbrev pub GivesCellsOf : {S Row Cells I : Type 0} → (S → Option Row → S → Type 0) → (Row → I → Type 0) → S → Option Cells → (Cells → I) → S → Type 0
GivesCellsOf {Row = Row} steps becomes s found inside t =
    MatchOption found (steps s None t) (λ cells. (row : Row) × steps s (Some row) t × becomes row (inside cells))

-- a call takes one from the count of what is left, where it gives something
abbrev pub TakesOne : {A : Type 0} → ℕ → Option A → ℕ → Type 0
TakesOne before found after = MatchOption found (after ≡ before) (λ _. after + 1 ≡ before)

-- a call gives the first of the texts that are left, as long as there is one, and refuses none
abbrev pub GivesText : {C E : Type 0} → (C → List ℕ) → List (List ℕ) → Option (Result C E) → List (List ℕ) → Type 0
GivesText text before found after =
    MatchOption found ((before ≡ []) × (after ≡ before)) (λ answer. MatchResult answer (λ cell. before ≡ text cell ∷ after) (λ _. ⊥))

-- a call gives the first of the rows that are left
abbrev pub GivesRow : {Row : Type 0} → (Row → List (List ℕ)) → List (List (List ℕ)) → Option Row → List (List (List ℕ)) → Type 0
GivesRow texts before found after = MatchOption found ((before ≡ []) × (after ≡ before)) (λ row. before ≡ texts row ∷ after)
