-- What is kept so far, and what is left, are all.
use Rattle.std.proofs.Common.{◌≡◌, ◌∙◌, ◌≤◌, List, [], ◌∷◌, ◌++◌, append_assoc, ap, arith, length, map, refl, subst, sym, take, ℕ}
use Rattle.std.proofs.lemmas.List.{append-nil, map-append, take_all}
use Rattle.std.proofs.Math.Seq.{take-append_seam}
use Rattle.std.specs.Prelude.{None, Ok, Option, Result}
use Rattle.std.specs.Iterator.{Count, Drains, Yields}
use Rattle.grid_records_traits.specs.Giving.{Gives, GivesEach}

-- one more is kept, the first of what was left
pub kept_more : {A B : Type 0} (f : A → B) (before after : List A) (x : A) (rest left all : List B) → after ≡ before ++ x ∷ [] →
    map f before ++ rest ≡ all → rest ≡ f x ∷ left → map f after ++ left ≡ all
kept_more f before after x rest left all pushed so is =
    ap (λ v. map f v ++ left) pushed
    ∙ ap (λ v. v ++ left) (map-append f before (x ∷ []))
    ∙ append_assoc (map f before) (f x ∷ []) left
    ∙ ap (λ v. map f before ++ v) (sym is)
    ∙ so

-- nothing is left, so all are kept
pub kept_all : {B : Type 0} (kept rest all : List B) → kept ++ rest ≡ all → rest ≡ [] → kept ≡ all
kept_all kept rest all so none = sym (append-nil kept) ∙ ap (λ v. kept ++ v) (sym none) ∙ so

-- as many are kept as were requested
pub kept_first : {B : Type 0} (kept rest all : List B) (n : ℕ) → kept ++ rest ≡ all → length kept ≡ n → kept ≡ take n all
kept_first kept rest all n so count =
    sym (take-append_seam kept rest) ∙ ap (take (length kept)) so ∙ ap (λ k. take k all) count

-- or all, which are no more
pub kept_fewer : {B : Type 0} (kept all : List B) (n : ℕ) → kept ≡ all → length kept ≤ n → kept ≡ take n all
kept_fewer kept all n same few = same ∙ sym (take_all n all (omega (arith, ap length same)))

none : {S A B : Type 0} (steps : S → Option A → S → Type 0) (tie : A → B → Type 0) (s t : S) (before : List B) → GivesEach steps tie s before → steps s None t → before ≡ []
none steps tie s t [] gives step = refl
none steps tie s t (y ∷ ys) gives step = absurd (gives.0 t step)

-- and where none comes, none was left
pub none_left : {S A B : Type 0} {can : S → Type 0} {left : S → Count} {steps : S → Option A → S → Type 0} {tie : A → B → Type 0} {s : S} {before : List B} (t : S) →
    Gives can left steps tie s before → steps s None t → before ≡ []
none_left {steps = steps} {tie = tie} {s = s} {before = before} t gives step = none steps tie s t before gives.each step

-- ---- cells that are kept as they come

-- one more cell came, and is kept
pub one_kept : {C E : Type 0} (xs : List (Result C E)) (x : Result C E) (cell : C) (before after : List C) → xs ≡ map (λ c. Ok c) before → x ≡ Ok cell → after ≡ before ++ cell ∷ [] →
    xs ++ x ∷ [] ≡ map (λ c. Ok c) after
one_kept xs x cell before after kept was pushed =
    ap (λ v. v ++ x ∷ []) kept ∙ ap (λ v. map (λ c. Ok c) before ++ v ∷ []) was
    ∙ sym (map-append (λ c. Ok c) before (cell ∷ [])) ∙ ap (map (λ c. Ok c)) (sym pushed)

-- a loop took these cells, and then no more came
pub drained : {S C E : Type 0} (steps : S → Option (Result C E) → S → Type 0) (s r t u : S) (xs : List (Result C E)) (kept : List C) → r ≡ s → Yields steps r xs t →
    xs ≡ map (λ c. Ok c) kept → steps t None u → Drains steps s (map (λ c. Ok c) kept)
drained steps s r t u xs kept same led are step =
    (u, (t, subst (λ v. Yields steps v (map (λ c. Ok c) kept) t) same (subst (λ v. Yields steps r v t) are led), step))
