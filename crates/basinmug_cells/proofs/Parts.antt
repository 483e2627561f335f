-- Parts of lists.
use Rattle.std.proofs.Common.{◌≡◌, ◌∙◌, ◌-◌, ◌<◌, ◌≤◌, ◌++◌, ◌+◌, ℕ, List, [], ap, arith, drop, inl, inr, length, map, min, sym, take, set}
use Rattle.std.specs.Prelude.{slice_range}
use Rattle.std.proofs.lemmas.Bool.{cases_lt}
use Rattle.std.proofs.lemmas.List.{drop-append-le, drop-map, drop-set-add, drop-set-lt, length-drop, length-take, nil_from_length, take-append-le, take-map, take-set-le}
use lib.Seq.{take-set-lt}

module _ {X : Type 0} where
  -- a part before the end is one of a longer list
  pub part-longer : (start end : ℕ) (items more : List X) → end ≤ length items → slice_range (items ++ more) start end ≡ slice_range items start end
  part-longer start end items more fits =
      elim (cases_lt (length items) start) [
        | inl past ↦
            let none : end - start ≡ 0 = omega (arith, past, fits) in
            ap (λ n. take n (drop start (items ++ more))) none ∙ sym (ap (λ n. take n (drop start items)) none)
        | inr inside ↦
            ap (take (end - start)) (drop-append-le start items more inside) ∙ take-append-le (end - start) (drop start items) more (omega (arith, fits, inside, length-drop start items))
      ]

  -- the length of a part that is there
  pub part-length : (start end : ℕ) (items : List X) → end ≤ length items → length (slice_range items start end) ≡ end - start
  part-length start end items fits = omega (arith, fits, length-take (end - start) (drop start items), length-drop start items)

  -- a part where there is none
  pub part-none : (start end : ℕ) (items : List X) → min end (length items) ≤ start → slice_range items start end ≡ []
  part-none start end items past = nil_from_length (slice_range items start end) (omega (arith, past, length-take (end - start) (drop start items), length-drop start items))

  -- a part after what is set
  pub part-set_before : (start end i : ℕ) (item : X) (items : List X) → i < start → slice_range (set items i item) start end ≡ slice_range items start end
  part-set_before start end i item items before = ap (take (end - start)) (drop-set-lt start items i item before)

  -- a part before it
  pub part-set_behind : (start end i : ℕ) (item : X) (items : List X) → start ≤ end → end ≤ i → slice_range (set items i item) start end ≡ slice_range items start end
  part-set_behind start end i item items ascend behind =
      let at : i ≡ start + (i - start) = omega (arith, ascend, behind) in
      ap (λ k. take (end - start) (drop start (set items k item))) at
      ∙ ap (take (end - start)) (drop-set-add start items (i - start) item)
      ∙ take-set-le (end - start) (drop start items) (i - start) item (omega (arith, behind))

  -- and the part itself
  pub part-set : (start end i : ℕ) (item : X) (items : List X) → i < end - start → slice_range (set items (start + i) item) start end ≡ set (slice_range items start end) i item
  part-set start end i item items inside = ap (take (end - start)) (drop-set-add start items i item) ∙ take-set-lt (end - start) (drop start items) i item inside

pub part-map : {X Y : Type 0} (f : X → Y) (start end : ℕ) (items : List X) → slice_range (map f items) start end ≡ map f (slice_range items start end)
part-map f start end items = ap (take (end - start)) (drop-map f start items) ∙ take-map f (end - start) (drop start items)
