-- Rows as they are looked at.
use Rattle.std.proofs.Common.{◌≡◌, ◌∙◌, ℕ, zero, suc, ◌-◌, All, None, Some, List, [], ◌∷◌, ap, arith, drop, get_or, inl, inr, length, map, min, refl, subst, sym, take}
use Rattle.std.specs.Prelude.{Option, slice_get, slice_range}
use lib.ListN.{get_or-map}
use Rattle.std.proofs.lemmas.Bool.{cases_lt}
use Rattle.std.proofs.lemmas.List.Elements.{All-drop, All-nil, All-take}
use Rattle.basinmug_cells.specs.Ends.{Ascend, rows_by, start_at}
use Rattle.basinmug_cells.proofs.Ends.{ascend-cons, ascend-nil, ascend-tail, rows-map}
use Rattle.basinmug_cells.proofs.Moves.{ascend-drop}
use Rattle.basinmug_cells.proofs.Parts.{part-none}

-- what is true of each item is true of each in a row
pub row-keeps : {X : Type 0} (P : X → Type 0) (start : ℕ) (ends : List ℕ) (items : List X) (row : ℕ) → All P items → All P (get_or (rows_by start ends items) row [])
row-keeps P start [] items zero all = All-nil P
row-keeps P start [] items (suc row) all = All-nil P
row-keeps P start (end ∷ ends) items zero all = All-take P (end - start) (drop start items) (All-drop P start items all)
row-keeps P start (end ∷ ends) items (suc row) all = row-keeps P end ends items row all

pub row-map : {X Y : Type 0} (f : X → Y) (start : ℕ) (ends : List ℕ) (items : List X) (row : ℕ) → map f (get_or (rows_by start ends items) row []) ≡ get_or (rows_by start ends (map f items)) row []
row-map {Y = Y} f start ends items row =
    sym (get_or-map (map f) (rows_by start ends items) row []) ∙ ap (λ (rows : List (List Y)). get_or rows row []) (sym (rows-map f start ends items))

pub ascend-first : (start : ℕ) (ends : List ℕ) (count n : ℕ) → Ascend start ends count → Ascend start (take n ends) count
ascend-first start ends count zero asc = ascend-nil start count (asc.within 0 (omega arith))
ascend-first start [] count (suc n) asc = asc
ascend-first start (end ∷ ends) count (suc n) asc = ascend-cons start end (take n ends) count (asc.ascend 0 (omega arith)) (ascend-first end ends count n (ascend-tail start end ends count asc))

pub ascend-part : (start : ℕ) (ends : List ℕ) (count from to : ℕ) → Ascend start ends count → Ascend (start_at start ends (min from (min to (length ends)))) (slice_range ends from to) count
ascend-part start ends count from to asc =
    elim (cases_lt (min to (length ends)) from) [
      | inl past ↦
          subst (λ (of : List ℕ). Ascend (start_at start ends (min from (min to (length ends)))) of count) (sym (part-none from to ends (omega (arith, past))))
          (ascend-nil (start_at start ends (min from (min to (length ends)))) count (asc.within (min from (min to (length ends))) (omega arith)))
      | inr inside ↦
          let same : from ≡ min from (min to (length ends)) = omega (arith, inside) in
          subst (λ row. Ascend (start_at start ends row) (slice_range ends from to) count) same
          (ascend-first (start_at start ends from) (drop from ends) count (to - from) (ascend-drop start ends count from asc (omega (arith, inside))))
    ]

pub none-at : (texts : List (List ℕ)) (k : ℕ) → slice_get texts k ≡ None → get_or texts k [] ≡ []
none-at [] zero none = refl
none-at [] (suc k) none = refl
none-at (text ∷ texts) zero none = absurd (cc none)
none-at (text ∷ texts) (suc k) none = none-at texts k none

pub some-at : (texts : List (List ℕ)) (k : ℕ) (text : List ℕ) → slice_get texts k ≡ Some text → get_or texts k [] ≡ text
some-at [] k text is = absurd (cc is)
some-at (first ∷ texts) zero text is = ap (λ (found : Option (List ℕ)). text_in found) is where
  text_in : Option (List ℕ) → List ℕ
  text_in None = []
  text_in (Some found) = found
some-at (first ∷ texts) (suc k) text is = some-at texts k text is
