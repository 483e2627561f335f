-- What an iterator over rows has left, and what one call takes away.
use Rattle.std.proofs.Common.{◌≡◌, ◌∙◌, ◌+◌, ℕ, zero, suc, List, [], ◌∷◌, ap, arith, drop, length, map, refl, replicate, sym, take}
use Rattle.std.proofs.lemmas.List.{drop-map}
use Rattle.std.specs.Prelude.{Option, Some}
use Rattle.std.specs.Iterator.{Yields}
use Rattle.std.specs.Iterator.Adapters.{skip_count, skip_source, skip_steps, take_count, take_source, take_steps}
use Rattle.std.specs.Vec.Iter.{into_iter_items, into_iter_len, into_iter_steps}
use Rattle.std.specs.declared.iter.Skip.{Skip}
use Rattle.std.specs.declared.iter.Take.{Take}
use Rattle.std.specs.declared.vec.IntoIter.{IntoIter}
use Rattle.grid_records_traits.specs.Sources.{items_left}

-- the first item is gone
pub passed_item : {A B : Type 0} (f : A → B) (before after : List A) (x : A) → before ≡ x ∷ after → map f after ≡ drop 1 (map f before)
passed_item f before after x is = sym (ap (λ v. drop 1 (map f v)) is)

-- the same of an iterator over a vector
pub left_item : {T Z : Type 0} (s t : IntoIter T Z) (x : T) → into_iter_steps s (Some x) t → items_left s ≡ x ∷ items_left t
left_item s t x step =
    let count : into_iter_len s ≡ suc (into_iter_len t) = omega (arith, step.1) in
    ap (λ n. take n (into_iter_items s)) count ∙ ap (take (suc (into_iter_len t))) step.0

-- what is made of each row follows
pub passed_map : {A B : Type 0} (f : A → B) (before after : List A) → after ≡ drop 1 before → map f after ≡ drop 1 (map f before)
passed_map f before after is = ap (map f) is ∙ sym (drop-map f 1 before)

-- and what is made of it by a number that stays
pub passed_made : {A B N : Type 0} (make : N → A → B) (m n : N) (before after : List A) → m ≡ n → after ≡ drop 1 before → map (make m) after ≡ drop 1 (map (make n) before)
passed_made make m n before after same is = ap (λ v. map (make v) after) same ∙ passed_map (make n) before after is

take_one : {A : Type 0} (n : ℕ) (rows : List A) → take n (drop 1 rows) ≡ drop 1 (take (suc n) rows)
take_one zero [] = refl
take_one (suc n) [] = refl
take_one n (row ∷ rows) = refl

drop_one : {A : Type 0} (n : ℕ) (rows : List A) → drop n (drop 1 rows) ≡ drop (suc n) rows
drop_one zero [] = refl
drop_one (suc n) [] = refl
drop_one n (row ∷ rows) = refl

drop_last : {A : Type 0} (n : ℕ) (rows : List A) → drop 1 (drop n rows) ≡ drop (suc n) rows
drop_last zero rows = refl
drop_last (suc n) [] = refl
drop_last (suc n) (row ∷ rows) = drop_last n rows

module _ {S A B : Type 0} (steps : S → Option A → S → Type 0) (left : S → List B) (passes : (s t : S) (x : A) → steps s (Some x) t → left t ≡ drop 1 (left s)) where
  -- of the first items
  pub passed_taken : (s t : Take S) (x : A) → take_steps steps s (Some x) t → take (take_count t) (left (take_source t)) ≡ drop 1 (take (take_count s) (left (take_source s)))
  passed_taken s t x step =
      let count : take_count s ≡ suc (take_count t) = omega (arith, step.1) in
      ap (take (take_count t)) (passes (take_source s) (take_source t) x step.0)
      ∙ take_one (take_count t) (left (take_source s))
      ∙ ap (λ n. drop 1 (take n (left (take_source s)))) (sym count)

  after : (xs : List A) (s t : S) → Yields steps s xs t → left t ≡ drop (length xs) (left s)
  after [] s t same = ap left (sym same)
  after (x ∷ xs) s t led =
      after xs led.0 t led.2 ∙ ap (drop (length xs)) (passes s led.0 x led.1) ∙ drop_one (length xs) (left s)

  -- and of those after the first
  pub passed_skipped : (s t : Skip S) (x : A) → skip_steps steps s (Some x) t → drop (skip_count t) (left (skip_source t)) ≡ drop 1 (drop (skip_count s) (left (skip_source s)))
  passed_skipped s t x step =
      let run = step.1 in
      ap (λ n. drop n (left (skip_source t))) step.0
      ∙ passes run.1.0 (skip_source t) x run.1.2
      ∙ ap (drop 1) (after run.0 (skip_source s) run.1.0 run.1.1 ∙ ap (λ n. drop n (left (skip_source s))) run.2)

-- n of the same
pub passed_same : {A : Type 0} (m n : ℕ) (before after : A) → m + 1 ≡ n → after ≡ before → replicate m after ≡ drop 1 (replicate n before)
passed_same m n before after count same =
    let more : n ≡ suc m = omega (arith, count) in
    ap (replicate m) same ∙ sym (ap (λ k. drop 1 (replicate k before)) more)

module _ {S A B : Type 0} (steps : S → Option A → S → Type 0) (refuses : S → B) (passes : (s t : S) (x : A) → steps s (Some x) t → refuses t ≡ refuses s) where
  kept : (xs : List A) (s t : S) → Yields steps s xs t → refuses t ≡ refuses s
  kept [] s t same = ap refuses (sym same)
  kept (x ∷ xs) s t led = kept xs led.0 t led.2 ∙ passes s led.0 x led.1

  pub refusing_skipped : (s t : Skip S) (x : A) → skip_steps steps s (Some x) t → refuses (skip_source t) ≡ refuses (skip_source s)
  refusing_skipped s t x step =
      let run = step.1 in
      passes run.1.0 (skip_source t) x run.1.2 ∙ kept run.0 (skip_source s) run.1.0 run.1.1
