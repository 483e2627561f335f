-- What a loop knows of an iterator that gives a list.
use Rattle.std.proofs.Common.{◌≡◌, ℕ, List, [], ◌∷◌, ◌++◌, ap, length, drop, refl, subst, sym}
use Rattle.std.specs.Prelude.{Bool, Err, Ok, Option, None, Result, Some}
use Rattle.std.specs.Iterator.{Count, Yields}
use Rattle.grid_records_traits.specs.Giving.{Gives, GivesCells, GivesEach, GivesTexts}

-- an item that comes after others is tied to the first element that is left
pub record NextGiven {A B : Type 0} (tie : A → B → Type 0) (xs : List A) (x : A) (ys : List B) : Type 0 where
  pub element : B
  pub tied : tie x element
  pub next : drop (length xs) ys ≡ element ∷ drop (length (xs ++ x ∷ [])) ys

next : {S A B : Type 0} (steps : S → Option A → S → Type 0) (tie : A → B → Type 0) (xs : List A) (ys : List B) (s t u : S) (x : A) →
    GivesEach steps tie s ys → Yields steps s xs t → steps t (Some x) u → NextGiven tie xs x ys
next steps tie [] [] s t u x gives same step =
    absurd (gives x u (subst (λ v. steps v (Some x) u) (sym same) step))
next steps tie [] (y ∷ ys) s t u x gives same step =
    record { element = y; tied = (gives.1 x u (subst (λ v. steps v (Some x) u) (sym same) step)).0; next = refl }
next steps tie (other ∷ xs) [] s t u x gives led step = absurd (gives other led.0 led.1)
next steps tie (other ∷ xs) (y ∷ ys) s t u x gives led step =
    let found = next steps tie xs ys _ t u x (gives.1 other led.0 led.1).1 led.2 step in
    record { element = found.element; tied = found.tied; next = found.next }

none : {S A B : Type 0} (steps : S → Option A → S → Type 0) (tie : A → B → Type 0) (xs : List A) (ys : List B) (s t u : S) →
    GivesEach steps tie s ys → Yields steps s xs t → steps t None u → drop (length xs) ys ≡ []
none steps tie [] [] s t u gives same step = refl
none steps tie [] (y ∷ ys) s t u gives same step = absurd (gives.0 u (subst (λ v. steps v None u) (sym same) step))
none steps tie (x ∷ xs) [] s t u gives led step = absurd (gives x led.0 led.1)
none steps tie (x ∷ xs) (y ∷ ys) s t u gives led step = none steps tie xs ys _ t u (gives.1 x led.0 led.1).1 led.2 step

module _ {S A B : Type 0} {can : S → Type 0} {left : S → Count} {steps : S → Option A → S → Type 0} {tie : A → B → Type 0} {s : S} {ys : List B} where
  -- a loop over what r became has taken xs, and now takes x
  pub next_given : (xs : List A) (x : A) (r t u : S) → Gives can left steps tie s ys → r ≡ s → Yields steps r xs t → steps t (Some x) u → NextGiven tie xs x ys
  next_given xs x r t u gives same led step = next steps tie xs ys s t u x gives.each (subst (λ v. Yields steps v xs t) same led) step

  -- it has taken xs, and no more comes: none is left
  pub none_given : (xs : List A) (r t u : S) → Gives can left steps tie s ys → r ≡ s → Yields steps r xs t → steps t None u → drop (length xs) ys ≡ []
  none_given xs r t u gives same led step = none steps tie xs ys s t u gives.each (subst (λ v. Yields steps v xs t) same led) step

-- each result so far was a cell
abbrev pub AreCells : {C E : Type 0} → List (Result C E) → Type 0
AreCells [] = Unit {0}
AreCells (Ok _ ∷ xs) = AreCells xs
AreCells (Err _ ∷ xs) = ⊥

one_more : {C E : Type 0} (xs : List (Result C E)) (cell : C) → AreCells xs → AreCells (xs ++ Ok cell ∷ [])
one_more [] cell are = tt
one_more (Ok _ ∷ xs) cell are = one_more xs cell are
one_more (Err _ ∷ xs) cell never = absurd never

-- and so is the next
pub cells_more : {C E : Type 0} (xs : List (Result C E)) (x : Result C E) (cell : C) → AreCells xs → x ≡ Ok cell → AreCells (xs ++ x ∷ [])
cells_more xs x cell are was = subst (λ v. AreCells (xs ++ v ∷ [])) (sym was) (one_more xs cell are)

module _ {S C E : Type 0} (steps : S → Option (Result C E) → S → Type 0) (text : C → List ℕ) (can_fail : Bool) where
  next_cell : (xs : List (Result C E)) (row : List (List ℕ)) (s t u : S) (cell : C) → GivesCells steps text can_fail s row → Yields steps s xs t → AreCells xs → steps t (Some (Ok cell)) u →
      drop (length xs) row ≡ text cell ∷ drop (length (xs ++ Ok cell ∷ [])) row
  next_cell [] [] s t u cell gives same are step = absurd (gives (Ok cell) u (subst (λ v. steps v (Some (Ok cell)) u) (sym same) step))
  next_cell [] (wanted ∷ row) s t u cell gives same are step =
      let found = gives.1 cell u (subst (λ v. steps v (Some (Ok cell)) u) (sym same) step) in
      sym (ap (λ v. v ∷ row) found.0)
  next_cell (Ok other ∷ xs) [] s t u cell gives led are step = absurd (gives (Ok other) led.0 led.1)
  next_cell (Ok other ∷ xs) (wanted ∷ row) s t u cell gives led are step = next_cell xs row led.0 t u cell (gives.1 other led.0 led.1).1 led.2 are step
  next_cell (Err _ ∷ xs) row s t u cell gives led never step = absurd never

  no_cell : (xs : List (Result C E)) (row : List (List ℕ)) (s t u : S) → GivesCells steps text can_fail s row → Yields steps s xs t → AreCells xs → steps t None u → drop (length xs) row ≡ []
  no_cell [] [] s t u gives same are step = refl
  no_cell [] (wanted ∷ row) s t u gives same are step = absurd (gives.0 u (subst (λ v. steps v None u) (sym same) step))
  no_cell (Ok other ∷ xs) [] s t u gives led are step = absurd (gives (Ok other) led.0 led.1)
  no_cell (Ok other ∷ xs) (wanted ∷ row) s t u gives led are step = no_cell xs row led.0 t u (gives.1 other led.0 led.1).1 led.2 are step
  no_cell (Err _ ∷ xs) row s t u gives led never step = absurd never

module _ {S C E : Type 0} {can : S → Type 0} {left : S → Count} {steps : S → Option (Result C E) → S → Type 0} {text : C → List ℕ} {can_fail : Bool} {s : S} {row : List (List ℕ)} where
  -- a loop over the cells of a row has taken xs, and now takes a cell
  pub next_text : (xs : List (Result C E)) (x : Result C E) (cell : C) (r t u : S) → GivesTexts can left steps text can_fail s row → r ≡ s → Yields steps r xs t → AreCells xs → steps t (Some x) u → x ≡ Ok cell →
      drop (length xs) row ≡ text cell ∷ drop (length (xs ++ x ∷ [])) row
  next_text xs x cell r t u gives same led are step was =
      subst (λ v. drop (length xs) row ≡ text cell ∷ drop (length (xs ++ v ∷ [])) row) (sym was)
      (next_cell steps text can_fail xs row s t u cell gives.each (subst (λ v. Yields steps v xs t) same led) are (subst (λ v. steps t (Some v) u) was step))

  -- it has taken xs, and no more comes: none is left
  pub none_text : (xs : List (Result C E)) (r t u : S) → GivesTexts can left steps text can_fail s row → r ≡ s → Yields steps r xs t → AreCells xs → steps t None u → drop (length xs) row ≡ []
  none_text xs r t u gives same led are step = no_cell steps text can_fail xs row s t u gives.each (subst (λ v. Yields steps v xs t) same led) are step
