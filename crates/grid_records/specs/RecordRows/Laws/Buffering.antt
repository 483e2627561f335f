-- Kept rows are given first, and then the rest of the source.
use Rattle.std.proofs.Common.{◌≡◌, ◌∙◌, ℕ, Bool, Global, List, Vec, [], ◌∷◌, ◌++◌, T, ap, drop, refl, subst, sym, vec_items}
use Rattle.std.specs.Prelude.{Err, IfSome, MatchOption, None, Ok, Option, Result, Some, cond, false, true}
use Rattle.std.specs.Iterator.{Count, IsFinite, at_most, count_add}
use Rattle.either.specs.Either.{MatchEither, either}
use Rattle.either.specs.Iterator.{either_steps}
use Rattle.either.specs.declared.Either.{Either}
use Rattle.either.specs.declared.Either.TheVariants.{Left, Right}
use Rattle.std.specs.Vec.Iter.{into_iter_len, into_iter_steps}
use Rattle.std.specs.declared.alloc.AllocError.{AllocError}
use Rattle.std.specs.declared.vec.IntoIter.{IntoIter}
use Rattle.grid_records.specs.RecordRows.Buffering.{GivesBuffered, of_rest}
use Rattle.grid_records_traits.specs.Giving.{Gives, GivesCells, GivesEach, GivesTexts, HasEnded, HasPassedOne}
use Rattle.grid_records_traits.specs.Giving.{AnswersCell, GivesCellsOf}
use Rattle.grid_records_traits.specs.Sources.{items_left, texts_of_rows}
use Rattle.grid_records_traits.specs.Laws.Given.{vec_gives, vec_goes, vec_stays, vec_stops}

-- one of two iterators gives the cells that it gives
module _ {S T C E : Type 0} (lefts : S → Option (Result C E) → S → Type 0) (rights : T → Option (Result C E) → T → Type 0) (text : C → List ℕ) (can_fail : Bool) where
  ended_left : (s : S) → HasEnded lefts s → HasEnded (either_steps lefts rights) (Left s)
  ended_left s gives = λ x t. elim t as (λ v. either_steps lefts rights (Left s) (Some x) v → ⊥) [ Left t ↦ λ step. gives x t step | Right _ ↦ λ never. never ]

  ended_right : (s : T) → HasEnded rights s → HasEnded (either_steps lefts rights) (Right s)
  ended_right s gives = λ x t. elim t as (λ v. either_steps lefts rights (Right s) (Some x) v → ⊥) [ Right t ↦ λ step. gives x t step | Left _ ↦ λ never. never ]

  cells_left : (s : S) (row : List (List ℕ)) → GivesCells lefts text can_fail s row → GivesCells (either_steps lefts rights) text can_fail (Left s) row
  cells_left s [] gives = ended_left s gives
  cells_left s (wanted ∷ row) gives = (
    λ t. elim t as (λ v. either_steps lefts rights (Left s) None v → ⊥) [ Left t ↦ λ step. gives.0 t step | Right _ ↦ λ never. never ],
    λ cell t. elim t as (λ v. either_steps lefts rights (Left s) (Some (Ok cell)) v → (text cell ≡ wanted) × GivesCells (either_steps lefts rights) text can_fail v row) [
      | Left t ↦ λ step. let next = gives.1 cell t step in (next.0, cells_left t row next.1)
      | Right _ ↦ λ never. absurd never
    ],
    λ refusal t. elim t as (λ v. either_steps lefts rights (Left s) (Some (Err refusal)) v → (can_fail ≡ true) × HasEnded (either_steps lefts rights) v) [
      | Left t ↦ λ step. let last = gives.2 refusal t step in (last.0, ended_left t last.1)
      | Right _ ↦ λ never. absurd never
    ],
  )

  cells_right : (s : T) (row : List (List ℕ)) → GivesCells rights text can_fail s row → GivesCells (either_steps lefts rights) text can_fail (Right s) row
  cells_right s [] gives = ended_right s gives
  cells_right s (wanted ∷ row) gives = (
    λ t. elim t as (λ v. either_steps lefts rights (Right s) None v → ⊥) [ Right t ↦ λ step. gives.0 t step | Left _ ↦ λ never. never ],
    λ cell t. elim t as (λ v. either_steps lefts rights (Right s) (Some (Ok cell)) v → (text cell ≡ wanted) × GivesCells (either_steps lefts rights) text can_fail v row) [
      | Right t ↦ λ step. let next = gives.1 cell t step in (next.0, cells_right t row next.1)
      | Left _ ↦ λ never. absurd never
    ],
    λ refusal t. elim t as (λ v. either_steps lefts rights (Right s) (Some (Err refusal)) v → (can_fail ≡ true) × HasEnded (either_steps lefts rights) v) [
      | Right t ↦ λ step. let last = gives.2 refusal t step in (last.0, ended_right t last.1)
      | Left _ ↦ λ never. absurd never
    ],
  )

  gives_left : {can : S → Type 0} {left : S → Count} {can_right : T → Type 0} {left_right : T → Count} (s : S) (row : List (List ℕ)) → GivesTexts can left lefts text can_fail s row →
      GivesTexts (λ s. MatchEither s can can_right) (either left left_right) (either_steps lefts rights) text can_fail (Left s) row
  gives_left s row gives = record { can_next = gives.can_next; ends = gives.ends; each = cells_left s row gives.each }

  gives_right : {can : S → Type 0} {left : S → Count} {can_right : T → Type 0} {left_right : T → Count} (s : T) (row : List (List ℕ)) → GivesTexts can_right left_right rights text can_fail s row →
      GivesTexts (λ s. MatchEither s can can_right) (either left left_right) (either_steps lefts rights) text can_fail (Right s) row
  gives_right s row gives = record { can_next = gives.can_next; ends = gives.ends; each = cells_right s row gives.each }

-- kept rows come first
module _ {K R Kept Rest B F : Type 0} (kept_steps : K → Option Kept → K → Type 0) (rest_steps : R → Option Rest → R → Type 0) (kept_of : F → K) (rest_of : F → Option R)
    (kept_tie : Kept → B → Type 0) (rest_tie : Rest → B → Type 0) (tie : Either Kept Rest → B → Type 0)
    (lefts : (row : Kept) (y : B) → kept_tie row y → tie (Left row) y) (rights : (row : Rest) (y : B) → rest_tie row y → tie (Right row) y)
    (stays : (s t : K) → kept_steps s None t → (row : Kept) (u : K) → ¬ (kept_steps t (Some row) u)) where
  abbrev Steps : F → Option (Either Kept Rest) → F → Type 0
  Steps s r t = GivesBuffered kept_steps rest_steps (record { kept = kept_of s; rest = rest_of s }) r (record { kept = kept_of t; rest = rest_of t })

  ended : (s : F) → GivesEach kept_steps kept_tie (kept_of s) [] → rest_of s ≡ None → GivesEach Steps tie s []
  ended s gives none = λ x t. elim x as (λ v. Steps s (Some v) t → ⊥) [
    | Left row ↦ λ step. gives row (kept_of t) step.0
    | Right row ↦ λ step. cc (none, step.1.2)
  ]

  of_the_rest : (s : F) (it : R) (zs : List B) → GivesEach kept_steps kept_tie (kept_of s) [] → rest_of s ≡ Some it → GivesEach rest_steps rest_tie it zs → GivesEach Steps tie s zs
  of_the_rest s it [] gives is rest = λ x t. elim x as (λ v. Steps s (Some v) t → ⊥) [
    | Left row ↦ λ step. gives row (kept_of t) step.0
    | Right row ↦ λ step.
        let same : step.1.0 ≡ it = cc (is, step.1.2) in
        rest row step.1.1 (subst (λ v. rest_steps v (Some row) step.1.1) same step.1.4)
  ]
  of_the_rest s it (z ∷ zs) gives is rest = (
    λ t step. let last = subst (λ v. MatchOption v (rest_of t ≡ None) (λ it. (then : R) × rest_steps it None then × (rest_of t ≡ Some then))) is step.1 in rest.0 last.0 last.1,
    λ x t. elim x as (λ v. Steps s (Some v) t → tie v z × GivesEach Steps tie t zs) [
      | Left row ↦ λ step. absurd (gives row (kept_of t) step.0)
      | Right row ↦ λ step.
          let same : step.1.0 ≡ it = cc (is, step.1.2) in
          let next = rest.1 row step.1.1 (subst (λ v. rest_steps v (Some row) step.1.1) same step.1.4) in
          (rights row z next.0, of_the_rest t step.1.1 zs (stays (kept_of s) (kept_of t) step.0) step.1.3 next.1)
    ],
  )

  from_rest : (s : F) (zs : List B) (r : Option R) → rest_of s ≡ r → GivesEach kept_steps kept_tie (kept_of s) [] →
      ((it : R) → rest_of s ≡ Some it → GivesEach rest_steps rest_tie it zs) → (rest_of s ≡ None → zs ≡ []) → GivesEach Steps tie s zs
  from_rest s zs None is gives rest none = subst (λ v. GivesEach Steps tie s v) (sym (none is)) (ended s gives is)
  from_rest s zs (Some it) is gives rest none = of_the_rest s it zs gives is (rest it is)

  -- all that is left of both
  pub each_buffered : (s : F) (ys zs : List B) → GivesEach kept_steps kept_tie (kept_of s) ys →
      ((it : R) → rest_of s ≡ Some it → GivesEach rest_steps rest_tie it zs) → (rest_of s ≡ None → zs ≡ []) → GivesEach Steps tie s (ys ++ zs)
  each_buffered s [] zs gives rest none = from_rest s zs (rest_of s) refl gives rest none
  each_buffered s (y ∷ ys) zs gives rest none = (
    λ t step. gives.0 (kept_of t) step.0,
    λ x t. elim x as (λ v. Steps s (Some v) t → tie v y × GivesEach Steps tie t (ys ++ zs)) [
      | Left row ↦ λ step.
          let next = gives.1 row (kept_of t) step.0 in
          (lefts row y next.0, each_buffered t ys zs next.1 (λ it is. rest it (sym step.1 ∙ is)) (λ is. none (sym step.1 ∙ is)))
      | Right row ↦ λ step. absurd (gives.0 (kept_of t) step.0)
    ],
  )

both_end : (a b : Count) → IsFinite a → IsFinite b → IsFinite (count_add a b)
both_end a b = elim a.bounded as (λ v. T v → T b.bounded → T (cond v b.bounded false)) [ true ↦ λ _ ends. ends | false ↦ λ never _. absurd never ]

module _ {R S C E : Type 0} {can : R → Type 0} {left : R → Count} {steps : R → Option S → R → Type 0} {cell_can : S → Type 0} {cell_left : S → Count} {cell_steps : S → Option (Result C E) → S → Type 0} {text : C → List ℕ} where
  -- every rest gives what is left of it
  pub rest_gives : (refuses : R → Bool) (rows : R → List (List (List ℕ))) (r : Option R) → ((it : R) → Gives can left steps (GivesTexts cell_can cell_left cell_steps text (refuses it)) it (rows it)) →
      (it : R) → r ≡ Some it → Gives can left steps (GivesTexts cell_can cell_left cell_steps text (of_rest refuses false r)) it (of_rest rows [] r)
  rest_gives refuses rows None each it is = absurd (cc is)
  rest_gives refuses rows (Some other) each it is =
      let same : other ≡ it = cc is in
      subst (λ v. Gives can left steps (GivesTexts cell_can cell_left cell_steps text (refuses other)) v (rows other)) same (each other)

  rest_can : {can_fail : Bool} (zs : List (List (List ℕ))) (r : Option R) → ((it : R) → r ≡ Some it → Gives can left steps (GivesTexts cell_can cell_left cell_steps text can_fail) it zs) → IfSome r can
  rest_can zs None gives = tt
  rest_can zs (Some it) gives = (gives it refl).can_next

  rest_ends : {can_fail : Bool} (zs : List (List (List ℕ))) (r : Option R) → ((it : R) → r ≡ Some it → Gives can left steps (GivesTexts cell_can cell_left cell_steps text can_fail) it zs) →
      IsFinite (of_rest left (at_most 0) r)
  rest_ends zs None gives = tt
  rest_ends zs (Some it) gives = (gives it refl).ends

-- rows that a vector keeps, and then those of the rest
pub buffered_rows_give : {T R K Cells Rest F : Type 0} (text : T → List ℕ) {becomes : Vec T Global → IntoIter T Global → Type 0} {rest_steps : R → Option Rest → R → Type 0}
    {rest_cells : Rest → Option (Result T AllocError) → Rest → Type 0}
    {rest_may : R → Type 0} {rest_left : R → Count} {rest_cell_can : Rest → Type 0} {rest_cell_left : Rest → Count}
    (inside : K → IntoIter (Vec T Global) Global) (cells_of : Cells → IntoIter T Global) (kept_of : F → K) (rest_of : F → Option R) →
    ((row : Vec T Global) (it : IntoIter T Global) → becomes row it → items_left it ≡ vec_items row) → (refuses : R → Bool) (rest_rows : R → List (List (List ℕ))) (s : F) →
    ((it : R) → Gives rest_may rest_left rest_steps (GivesTexts rest_cell_can rest_cell_left rest_cells text (refuses it)) it (rest_rows it)) →
    Gives (λ s. IfSome (rest_of s) rest_may) (λ s. count_add (at_most (into_iter_len (inside (kept_of s)))) (of_rest rest_left (at_most 0) (rest_of s)))
    (λ s r t. GivesBuffered (λ s r t. GivesCellsOf into_iter_steps becomes (inside s) r cells_of (inside t)) rest_steps (record { kept = kept_of s; rest = rest_of s }) r (record { kept = kept_of t; rest = rest_of t }))
    (GivesTexts (λ cells. MatchEither cells (λ _. Unit {0}) rest_cell_can) (either (λ cells. at_most (into_iter_len (cells_of cells))) rest_cell_left)
    (either_steps (λ s r t. AnswersCell into_iter_steps (cells_of s) r (cells_of t)) rest_cells) text (of_rest refuses false (rest_of s))) s
    (texts_of_rows text (items_left (inside (kept_of s))) ++ of_rest rest_rows [] (rest_of s))
buffered_rows_give text {becomes = becomes} {rest_steps = rest_steps} {rest_cells = rest_cells} {rest_left = rest_left} inside cells_of kept_of rest_of became refuses rest_rows s rest =
    let zs = of_rest rest_rows [] (rest_of s) in
    let can_fail = of_rest refuses false (rest_of s) in
    let of_it = rest_gives refuses rest_rows (rest_of s) rest in
    record {
      can_next = rest_can zs (rest_of s) of_it;
      ends = rest_ends zs (rest_of s) of_it;
      each = each_buffered (λ s r t. GivesCellsOf into_iter_steps becomes (inside s) r cells_of (inside t)) rest_steps kept_of rest_of _ _ _
          (λ row y given. gives_left _ rest_cells text can_fail row y given)
          (λ row y given. gives_right _ rest_cells text can_fail row y given)
          (λ s t ended row u step. vec_stays (inside s) (inside t) ended step.0 (inside u) step.1) s (texts_of_rows text (items_left (inside (kept_of s)))) zs
          (vec_gives text (λ _. Unit {0}) (λ cells. at_most (into_iter_len (cells_of cells))) can_fail (λ _. (tt, tt)) inside cells_of became (kept_of s))
          (λ it is. (of_it it is).each) (ap (of_rest rest_rows []));
    }

-- and the row that was given is no longer left
pub passed_buffered : {T R K Cells Rest : Type 0} (text : T → List ℕ) (becomes : Vec T Global → IntoIter T Global → Type 0) (rest_steps : R → Option Rest → R → Type 0)
    (inside : K → IntoIter (Vec T Global) Global) (cells_of : Cells → IntoIter T Global) (rest_rows : R → List (List (List ℕ))) (refuses : R → Bool) →
    ((s t : R) (row : Rest) → rest_steps s (Some row) t → HasPassedOne (rest_rows s) (refuses s) (rest_rows t) (refuses t)) →
    (k t : K) (r u : Option R) (row : Either Cells Rest) →
    GivesBuffered (λ s r t. GivesCellsOf into_iter_steps becomes (inside s) r cells_of (inside t)) rest_steps (record { kept = k; rest = r }) (Some row) (record { kept = t; rest = u }) →
    HasPassedOne
    (texts_of_rows text (items_left (inside k)) ++ of_rest rest_rows [] r) (of_rest refuses false r)
    (texts_of_rows text (items_left (inside t)) ++ of_rest rest_rows [] u) (of_rest refuses false u)
passed_buffered text becomes rest_steps inside cells_of rest_rows refuses passes k t r u (Left row) step = (
  ap (λ v. texts_of_rows text (items_left (inside t)) ++ of_rest rest_rows [] v) step.1
      ∙ sym (ap (λ v. drop 1 (v ++ of_rest rest_rows [] r)) (vec_goes text (inside k) (inside t) step.0.0 step.0.1).1),
  ap (of_rest refuses false) step.1,
)
passed_buffered text becomes rest_steps inside cells_of rest_rows refuses passes k t r u (Right row) step =
    let none = vec_stops text (inside k) (inside t) step.0 in
    let passed = passes step.1.0 step.1.1 row step.1.4 in (
      ap (λ v. v ++ of_rest rest_rows [] u) none.1
          ∙ ap (of_rest rest_rows []) step.1.3
          ∙ passed.0
          ∙ sym (ap (λ v. drop 1 (v ++ of_rest rest_rows [] r)) none.0 ∙ ap (λ v. drop 1 (of_rest rest_rows [] v)) step.1.2),
      ap (of_rest refuses false) step.1.3 ∙ passed.1 ∙ sym (ap (of_rest refuses false) step.1.2),
    )
