-- What an iterator gives that takes or skips items of another.
use Rattle.std.proofs.Common.{◌≡◌, ◌∙◌, ◌≤◌, ◌-◌, ℕ, zero, suc, List, [], ◌∷◌, ap, arith, drop, length, map, refl, subst, sym, take}
use Rattle.std.proofs.lemmas.List.{length-drop}
use Rattle.std.specs.Prelude.{Bool, MatchOption, None, Option, Result, Some}
use Rattle.std.specs.Iterator.{Count, IsFinite, SkipsThenYields, Yields, at_most, count_map, count_min}
use Rattle.std.specs.Iterator.Adapters.{skip_count, skip_source, skip_steps, take_count, take_source, take_steps}
use Rattle.std.specs.declared.iter.Skip.{Skip}
use Rattle.std.specs.declared.iter.Take.{Take}
use Rattle.grid_records.specs.declared.rows.records.into_records.limit_columns.LimitedRows.{LimitedRows}
use Rattle.grid_records_traits.specs.Giving.{Gives, GivesCells, GivesEach, GivesTexts}
use Rattle.grid_records.specs.RecordRows.Sources.{GivesTaken}

each_taken : {S A B : Type 0} (steps : S → Option A → S → Type 0) (tie : A → B → Type 0) (n : ℕ) (s : Take S) (ys : List B) → take_count s ≡ n →
    GivesEach steps tie (take_source s) ys → GivesEach (take_steps steps) tie s (take n ys)
each_taken steps tie zero s ys count gives = λ x t step. absurd (omega (arith, step.1, count))
each_taken steps tie (suc n) s [] count gives = λ x t step. gives x (take_source t) step.0
each_taken steps tie (suc n) s (y ∷ ys) count gives = (
  λ t step. gives.0 (take_source t) (step (omega (arith, count))),
  λ x t step. let next = gives.1 x (take_source t) step.0 in (next.0, each_taken steps tie n t ys (omega (arith, count, step.1)) next.1),
)

-- the first items of an iterator
pub gives_taken : {S A B : Type 0} {can : S → Type 0} {left : S → Count} {steps : S → Option A → S → Type 0} {tie : A → B → Type 0} {it : S} {ys : List B} (s : Take S) (n : ℕ) →
    take_source s ≡ it → take_count s ≡ n → Gives can left steps tie it ys →
    Gives (λ s. can (take_source s)) (λ s. count_min (at_most (take_count s)) (left (take_source s))) (take_steps steps) tie s (take n ys)
gives_taken {can = can} {steps = steps} {tie = tie} {ys = ys} s n source count gives =
    record {
      can_next = subst can (sym source) gives.can_next;
      ends = tt;
      each = each_taken steps tie n s ys count (subst (λ v. GivesEach steps tie v ys) (sym source) gives.each);
    }

few : {A : Type 0} (r : Option A) (k n : ℕ) → MatchOption r (k ≤ n) (λ _. k ≡ n) → k ≤ n
few None k n is = is
few (Some x) k n is = omega (arith, is)

unskipped : {S A : Type 0} (steps : S → Option A → S → Type 0) (xs : List A) (s t u : S) (r : Option A) → Yields steps s xs t → steps t r u → length xs ≤ 0 → steps s r u
unskipped steps [] s t u r same step none = subst (λ v. steps v r u) (sym same) step
unskipped steps (x ∷ xs) s t u r led step none = absurd (omega (arith, none))

at_zero : {S A : Type 0} (steps : S → Option A → S → Type 0) (s u : S) (r : Option A) (n : ℕ) → n ≡ 0 → SkipsThenYields steps s n r u → steps s r u
at_zero steps s u r n none run =
    unskipped steps run.0 s run.1.0 u r run.1.1 run.1.2 (let le = few r (length run.0) n run.2 in omega (arith, le, none))

-- what is left after some items
pub each_after : {S A B : Type 0} (steps : S → Option A → S → Type 0) (tie : A → B → Type 0) (xs : List A) (ys : List B) (s t : S) → GivesEach steps tie s ys → Yields steps s xs t →
    GivesEach steps tie t (drop (length xs) ys)
each_after steps tie [] ys s t gives same = subst (λ v. GivesEach steps tie v ys) same gives
each_after steps tie (x ∷ xs) [] s t gives led = absurd (gives x led.0 led.1)
each_after steps tie (x ∷ xs) (y ∷ ys) s t gives led = each_after steps tie xs ys led.0 t (gives.1 x led.0 led.1).1 led.2

none_left : {S A B : Type 0} (steps : S → Option A → S → Type 0) (tie : A → B → Type 0) (s : S) (ys : List B) (u : S) → GivesEach steps tie s ys → steps s None u → ys ≡ []
none_left steps tie s [] u gives step = refl
none_left steps tie s (y ∷ ys) u gives step = absurd (gives.0 u step)

skip_later : {S A B : Type 0} (steps : S → Option A → S → Type 0) (tie : A → B → Type 0) (s : Skip S) (ys : List B) → skip_count s ≡ 0 →
    GivesEach steps tie (skip_source s) ys → GivesEach (skip_steps steps) tie s ys
skip_later steps tie s [] none gives = λ x t step. gives x (skip_source t) (at_zero steps (skip_source s) (skip_source t) (Some x) (skip_count s) none step.1)
skip_later steps tie s (y ∷ ys) none gives = (
  λ t step. gives.0 (skip_source t) (at_zero steps (skip_source s) (skip_source t) None (skip_count s) none step.1),
  λ x t step.
      let next = gives.1 x (skip_source t) (at_zero steps (skip_source s) (skip_source t) (Some x) (skip_count s) none step.1) in
      (next.0, skip_later steps tie t ys step.0 next.1),
)

past : {A B : Type 0} (xs : List A) (ys : List B) (z : B) (zs : List B) (n : ℕ) → drop (length xs) ys ≡ [] → length xs ≤ n → drop n ys ≡ z ∷ zs → ⊥
past xs ys z zs n none le some =
    let short = simp length-drop at (ap length none) in
    let long = simp length-drop at (ap length some) in
    omega (arith, short, long)

each_skipped : {S A B : Type 0} (steps : S → Option A → S → Type 0) (tie : A → B → Type 0) (n : ℕ) (s : Skip S) (ys zs : List B) → skip_count s ≡ n → drop n ys ≡ zs →
    GivesEach steps tie (skip_source s) ys → GivesEach (skip_steps steps) tie s zs
each_skipped steps tie n s ys [] count left gives = λ x t step.
    let run = step.1 in
    let after = each_after steps tie run.0 ys (skip_source s) run.1.0 gives run.1.1 in
    subst (λ v. GivesEach steps tie run.1.0 v) (ap (λ k. drop k ys) (run.2 ∙ count) ∙ left) after x (skip_source t) run.1.2
each_skipped steps tie n s ys (z ∷ zs) count left gives = (
  λ t step.
      let run = step.1 in
      let after = each_after steps tie run.0 ys (skip_source s) run.1.0 gives run.1.1 in
      past run.0 ys z zs n (none_left steps tie run.1.0 (drop (length run.0) ys) (skip_source t) after run.1.2) (omega (arith, run.2, count)) left,
  λ x t step.
      let run = step.1 in
      let after = each_after steps tie run.0 ys (skip_source s) run.1.0 gives run.1.1 in
      let next = (subst (λ v. GivesEach steps tie run.1.0 v) (ap (λ k. drop k ys) (run.2 ∙ count) ∙ left) after).1 x (skip_source t) run.1.2 in
      (next.0, skip_later steps tie t zs step.0 next.1),
)

-- the items of an iterator after its first
pub gives_skipped : {S A B : Type 0} {can : S → Type 0} {left : S → Count} {steps : S → Option A → S → Type 0} {tie : A → B → Type 0} {it : S} {ys : List B} (s : Skip S) (n : ℕ) →
    skip_source s ≡ it → skip_count s ≡ n → Gives can left steps tie it ys →
    Gives (λ s. can (skip_source s)) (λ s. count_map (λ n. n - skip_count s) (left (skip_source s))) (skip_steps steps) tie s (drop n ys)
gives_skipped {can = can} {left = left} {steps = steps} {tie = tie} {ys = ys} s n source count gives =
    record {
      can_next = subst can (sym source) gives.can_next;
      ends = subst (λ v. IsFinite (left v)) (sym source) gives.ends;
      each = each_skipped steps tie n s ys (drop n ys) count refl (subst (λ v. GivesEach steps tie v ys) (sym source) gives.each);
    }

-- the first cells of a row
cells_taken : {S C E : Type 0} (steps : S → Option (Result C E) → S → Type 0) (text : C → List ℕ) (can_fail : Bool) (n : ℕ) (s : Take S) (row : List (List ℕ)) → take_count s ≡ n →
    GivesCells steps text can_fail (take_source s) row → GivesCells (take_steps steps) text can_fail s (take n row)
cells_taken steps text can_fail zero s row count gives = λ x t step. absurd (omega (arith, step.1, count))
cells_taken steps text can_fail (suc n) s [] count gives = λ x t step. gives x (take_source t) step.0
cells_taken steps text can_fail (suc n) s (wanted ∷ row) count gives = (
  λ t step. gives.0 (take_source t) (step (omega (arith, count))),
  λ cell t step. let next = gives.1 cell (take_source t) step.0 in (next.0, cells_taken steps text can_fail n t row (omega (arith, count, step.1)) next.1),
  λ refusal t step. let last = gives.2 refusal (take_source t) step.0 in (last.0, λ x u later. last.1 x (take_source u) later.0),
)

texts_taken : {S C E : Type 0} {can : S → Type 0} {left : S → Count} {steps : S → Option (Result C E) → S → Type 0} {text : C → List ℕ} {can_fail : Bool} {row : List (List ℕ)} (s : Take S) (n : ℕ) →
    take_count s ≡ n → GivesTexts can left steps text can_fail (take_source s) row →
    GivesTexts (λ s. can (take_source s)) (λ s. count_min (at_most (take_count s)) (left (take_source s))) (take_steps steps) text can_fail s (take n row)
texts_taken {steps = steps} {text = text} {can_fail = can_fail} {row = row} s n count gives =
    record { can_next = gives.can_next; ends = tt; each = cells_taken steps text can_fail n s row count gives.each }

-- rows whose first cells are taken
each_limited : {S Cells B : Type 0} (steps : S → Option Cells → S → Type 0) (tie : Cells → List B → Type 0) (wanted : Take Cells → List B → Type 0) (limit : ℕ) →
    ((cells : Take Cells) (texts : List B) → tie (take_source cells) texts → take_count cells ≡ limit → wanted cells (take limit texts)) →
    (s : LimitedRows S) (rows : List (List B)) → s.limit ≡ limit → GivesEach steps tie s.rows rows →
    GivesEach (GivesTaken steps) wanted s (map (take limit) rows)
each_limited steps tie wanted limit follows s [] is gives = λ cells t step. gives (take_source cells) t.rows step.1.0
each_limited steps tie wanted limit follows s (texts ∷ rows) is gives = (
  λ t step. gives.0 t.rows step.1,
  λ cells t step.
      let next = gives.1 (take_source cells) t.rows step.1.0 in
      (follows cells texts next.0 (step.1.1 ∙ is), each_limited steps tie wanted limit follows t rows (step.0 ∙ is) next.1),
)

-- all rows of a source, of each the first cells
pub limited_rows_give : {R S C E : Type 0} {row_can : R → Type 0} {row_left : R → Count} {can : S → Type 0} {left : S → Count} {can_fail : Bool} {rows : List (List (List ℕ))}
    (row_steps : R → Option S → R → Type 0) (steps : S → Option (Result C E) → S → Type 0) (text : C → List ℕ) (s : LimitedRows R) →
    Gives row_can row_left row_steps (GivesTexts can left steps text can_fail) s.rows rows →
    Gives (λ s. row_can s.rows) (λ s. row_left s.rows) (GivesTaken row_steps)
    (GivesTexts (λ cells. can (take_source cells)) (λ cells. count_min (at_most (take_count cells)) (left (take_source cells))) (take_steps steps) text can_fail) s (map (take s.limit) rows)
limited_rows_give {rows = rows} row_steps steps text s gives =
    record {
      can_next = gives.can_next;
      ends = gives.ends;
      each = each_limited row_steps _ _ s.limit (λ cells texts given count. texts_taken cells s.limit count given) s rows refl gives.each;
    }
