-- Iterators of the standard library give their lists.
use Rattle.std.proofs.Common.{arith, ◌≡◌, ◌∙◌, ℕ, zero, suc, List, [], ◌∷◌, ap, length, map, Global, Iter, refl, subst, take}
use Rattle.std.proofs.lemmas.List.{take_all}
use Rattle.std.specs.Array.Iter.{array_into_iter_items, array_steps}
use Rattle.std.specs.Slice.Iter.{iter_rest, iter_steps}
use Rattle.std.specs.Vec.Iter.{into_iter_items, into_iter_len, into_iter_steps}
use Rattle.std.specs.declared.array.IntoIter.{IntoIter as ArrayIter}
use Rattle.std.specs.declared.vec.IntoIter.{IntoIter}
use Rattle.grid_records_traits.specs.Giving.{GivesEach}
use Rattle.grid_records_traits.specs.Sources.{items_left}
use Rattle.grid_records_traits.specs.Laws.Giving.{each_mapped, empty}

pub each_of_slice : {A B : Type 0} (f : A → B) (it : Iter A) (ys : List B) → map f (iter_rest it) ≡ ys → GivesEach iter_steps (λ x y. f x.now ≡ y) it ys
each_of_slice {A} {B} f it ys is =
    each_mapped iter_steps (λ x. x.now) iter_rest f (λ s t step. empty (iter_rest s) step.0) (λ s x t step. step) it ys is

each_of_items : {A B : Type 0} (f : A → B) (n : ℕ) (xs : List A) (it : IntoIter A Global) → into_iter_items it ≡ xs → into_iter_len it ≡ n → GivesEach into_iter_steps (λ x y. f x ≡ y) it (map f (take n xs))
each_of_items f zero xs it items len = λ x t step. omega (arith, step.1, len)
each_of_items f (suc n) [] it items len = λ x t step. cc (items, step.0)
each_of_items f (suc n) (x ∷ xs) it items len = (
  λ t step. omega (arith, step.0, len),
  λ y t step.
      let same : y ≡ x = cc (items, step.0) in
      (ap f same, each_of_items f n xs t (cc (items, step.0)) (omega (arith, step.1, len))),
)

pub each_of_vec : {A B : Type 0} (f : A → B) (it : IntoIter A Global) (ys : List B) → map f (items_left it) ≡ ys → GivesEach into_iter_steps (λ x y. f x ≡ y) it ys
each_of_vec f it ys same = subst (λ v. GivesEach into_iter_steps (λ x y. f x ≡ y) it v) same (each_of_items f (into_iter_len it) (into_iter_items it) it refl refl)

-- of a vector they are all left
pub all_items : {A : Type 0} (it : IntoIter A Global) (xs : List A) → into_iter_items it ≡ xs → into_iter_len it ≡ length xs → items_left it ≡ xs
all_items it xs items len = ap (take (into_iter_len it)) items ∙ take_all (into_iter_len it) xs (omega (arith, len))

pub each_of_array : {A B : Type 0} {n : ℕ} (f : A → B) (it : ArrayIter A n) (ys : List B) → map f (array_into_iter_items it) ≡ ys → GivesEach (array_steps {A = A} {n = n}) (λ x y. f x ≡ y) it ys
each_of_array {A} {B} {n} f it ys is =
    each_mapped (array_steps {A = A} {n = n}) (λ x. x) array_into_iter_items f (λ s t step. empty (array_into_iter_items s) step.0) (λ s x t step. step) it ys is
