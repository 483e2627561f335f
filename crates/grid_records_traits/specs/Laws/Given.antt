-- Rows that a vector, a slice or an array holds are given.
use Rattle.std.proofs.Common.{◌≡◌, ℕ, List, [], ◌∷◌, ap, arith, drop, map, refl, take, Bool, Bor, Global, Iter, Vec, vec_items}
use Rattle.std.specs.declared.alloc.AllocError.{AllocError}
use Rattle.std.specs.Prelude.{None, Some}
use Rattle.std.specs.Array.Iter.{array_into_iter_items, array_steps}
use Rattle.std.specs.Iterator.{Count, IsFinite}
use Rattle.std.specs.Slice.Iter.{iter_rest, iter_steps}
use Rattle.std.specs.Vec.Iter.{into_iter_items, into_iter_steps}
use Rattle.std.specs.declared.array.IntoIter.{IntoIter as ArrayIter}
use Rattle.std.specs.declared.vec.IntoIter.{IntoIter}
use Rattle.grid_records_traits.specs.Giving.{GivesEach, GivesTexts}
use Rattle.grid_records_traits.specs.Giving.{AnswersCell, GivesCellsOf}
use Rattle.grid_records_traits.specs.Sources.{items_left, texts_of_rows}
use Rattle.grid_records_traits.specs.Laws.Giving.{each_given}
use Rattle.grid_records_traits.specs.Laws.Leaving.{left_item, passed_item}
use Rattle.grid_records_traits.specs.Laws.Sources.{each_of_array, each_of_slice, each_of_vec}

module _ {T R Cells : Type 0} (text : T → List ℕ) (can : Cells → Type 0) (left : Cells → Count) (can_fail : Bool) (ends : (cells : Cells) → can cells × IsFinite (left cells)) where
  pub slice_gives : {becomes : Bor (Vec T Global) → Iter T → Type 0} (inside : R → Iter (Vec T Global)) (cells_of : Cells → Iter T) →
      ((row : Bor (Vec T Global)) (it : Iter T) → becomes row it → iter_rest it ≡ vec_items row.now) → (s : R) →
      GivesEach {A = Cells} (λ s r t. GivesCellsOf iter_steps becomes (inside s) r cells_of (inside t))
      (GivesTexts {E = AllocError} can left (λ s r t. AnswersCell iter_steps (cells_of s) r (cells_of t)) (λ cell. text cell.now) can_fail) s (texts_of_rows text (iter_rest (inside s)))
  slice_gives {becomes} inside cells_of became s =
      each_given AllocError iter_steps becomes inside cells_of iter_steps (λ cell. text cell.now) can left can_fail (λ row. map text (vec_items row.now)) ends
      (λ row it h. each_of_slice text it (map text (vec_items row.now)) (ap (map text) (became row it h)))
      s (texts_of_rows text (iter_rest (inside s))) (each_of_slice (λ row. map text (vec_items row)) (inside s) (texts_of_rows text (iter_rest (inside s))) refl)

  pub vec_gives : {becomes : Vec T Global → IntoIter T Global → Type 0} (inside : R → IntoIter (Vec T Global) Global) (cells_of : Cells → IntoIter T Global) →
      ((row : Vec T Global) (it : IntoIter T Global) → becomes row it → items_left it ≡ vec_items row) → (s : R) →
      GivesEach {A = Cells} (λ s r t. GivesCellsOf into_iter_steps becomes (inside s) r cells_of (inside t))
      (GivesTexts {E = AllocError} can left (λ s r t. AnswersCell into_iter_steps (cells_of s) r (cells_of t)) text can_fail) s (texts_of_rows text (items_left (inside s)))
  vec_gives {becomes} inside cells_of became s =
      each_given AllocError into_iter_steps becomes inside cells_of into_iter_steps text can left can_fail (λ row. map text (vec_items row)) ends
      (λ row it h. each_of_vec text it (map text (vec_items row)) (ap (map text) (became row it h)))
      s (texts_of_rows text (items_left (inside s))) (each_of_vec (λ row. map text (vec_items row)) (inside s) (texts_of_rows text (items_left (inside s))) refl)

  pub array_gives : {m n : ℕ} {becomes : List T → ArrayIter T n → Type 0} (inside : R → ArrayIter (List T) m) (cells_of : Cells → ArrayIter T n) →
      ((row : List T) (it : ArrayIter T n) → becomes row it → array_into_iter_items it ≡ row) → (s : R) →
      GivesEach {A = Cells} (λ s r t. GivesCellsOf array_steps becomes (inside s) r cells_of (inside t))
      (GivesTexts {E = AllocError} can left (λ s r t. AnswersCell array_steps (cells_of s) r (cells_of t)) text can_fail) s (map (map text) (array_into_iter_items (inside s)))
  array_gives {becomes = becomes} inside cells_of became s =
      each_given AllocError array_steps becomes inside cells_of array_steps text can left can_fail (map text) ends
      (λ row it h. each_of_array text it (map text row) (ap (map text) (became row it h)))
      s (map (map text) (array_into_iter_items (inside s))) (each_of_array (map text) (inside s) (map (map text) (array_into_iter_items (inside s))) refl)

-- after the end of a vector nothing comes
pub vec_stays : {T : Type 0} (s t : IntoIter T Global) → into_iter_steps s None t → (row : T) (u : IntoIter T Global) → ¬ (into_iter_steps t (Some row) u)
vec_stays s t ended row u step = omega (arith, ended.1, step.1)

-- a row that is given was the first, and at the end none is left
pub vec_goes : {T : Type 0} (text : T → List ℕ) (s t : IntoIter (Vec T Global) Global) (row : Vec T Global) → into_iter_steps s (Some row) t →
    (y : List (List ℕ)) × (texts_of_rows text (items_left s) ≡ y ∷ texts_of_rows text (items_left t))
vec_goes text s t row step = (map text (vec_items row), ap (texts_of_rows text) (left_item s t row step))

pub vec_stops : {T : Type 0} (text : T → List ℕ) (s t : IntoIter (Vec T Global) Global) → into_iter_steps s None t →
    (texts_of_rows text (items_left s) ≡ []) × (texts_of_rows text (items_left t) ≡ [])
vec_stops text s t step = (
  ap (λ n. texts_of_rows text (take n (into_iter_items s))) step.0,
  ap (λ n. texts_of_rows text (take n (into_iter_items t))) step.1,
)

-- the row that was given is left no more
pub vec_passes : {T : Type 0} (text : T → List ℕ) (s t : IntoIter (Vec T Global) Global) (row : Vec T Global) → into_iter_steps s (Some row) t →
    texts_of_rows text (items_left t) ≡ drop 1 (texts_of_rows text (items_left s))
vec_passes text s t row step = passed_item (λ row. map text (vec_items row)) (items_left s) (items_left t) row (left_item s t row step)
