-- Rows by where they end.
use Rattle.std.proofs.Common.{◌≡◌, ◌∙◌, ℕ, zero, suc, ◌+◌, ◌-◌, ◌<◌, ◌≤◌, List, [], ◌∷◌, ◌++◌, ap, ap₂, arith, drop, get_or, inl, inr, length, map, min, refl, set, sym, take}
use Rattle.std.specs.Prelude.{slice_range}
use Rattle.std.proofs.lemmas.Bool.{cases_lt}
use Rattle.std.proofs.lemmas.List.{get_or_past}
use Rattle.basinmug_cells.specs.Ends.{Ascend, rows_by, start_at}
use Rattle.basinmug_cells.proofs.Parts.{part-longer, part-map, part-none, part-set, part-set_before, part-set_behind}

-- ---- the ends

-- the places of the ends behind the first
pub ascend-tail : (start end : ℕ) (ends : List ℕ) (count : ℕ) → Ascend start (end ∷ ends) count → Ascend end ends count
ascend-tail start end ends count asc = record {
  within = λ row below. asc.within (suc row) (omega (arith, below));
  ascend = λ row below. asc.ascend (suc row) (omega (arith, below));
}

pub ascend-nil : (start count : ℕ) → start ≤ count → Ascend start [] count
ascend-nil start count fits = record { within = within; ascend = λ row below. absurd (omega (arith, below)) } where
  within : (row : ℕ) → row ≤ 0 → get_or (start ∷ []) row 0 ≤ count
  within zero below = fits
  within (suc row) below = absurd (omega (arith, below))

pub ascend-cons : (start end : ℕ) (ends : List ℕ) (count : ℕ) → start ≤ end → Ascend end ends count → Ascend start (end ∷ ends) count
ascend-cons start end ends count first asc = record { within = within; ascend = ascend } where
  within : (row : ℕ) → row ≤ length (end ∷ ends) → get_or (start ∷ end ∷ ends) row 0 ≤ count
  within zero below = omega (arith, first, asc.within 0 (omega arith))
  within (suc row) below = asc.within row (omega (arith, below))

  ascend : (row : ℕ) → row < length (end ∷ ends) → get_or (start ∷ end ∷ ends) row 0 ≤ get_or (end ∷ ends) row 0
  ascend zero below = first
  ascend (suc row) below = asc.ascend row (omega (arith, below))

-- there may be more items
pub ascend-more : (start : ℕ) (ends : List ℕ) (count more : ℕ) → count ≤ more → Ascend start ends count → Ascend start ends more
ascend-more start ends count more fits asc = record {
  within = λ row below. omega (arith, fits, asc.within row below);
  ascend = asc.ascend;
}

-- a row may end behind all items
pub ascend-push : (start : ℕ) (ends : List ℕ) (count : ℕ) → Ascend start ends count → Ascend start (ends ++ count ∷ []) count
ascend-push start [] count asc = ascend-cons start count [] count (asc.within 0 (omega arith)) (ascend-nil count count (omega arith))
ascend-push start (end ∷ ends) count asc = ascend-cons start end (ends ++ count ∷ []) count (asc.ascend 0 (omega arith)) (ascend-push end ends count (ascend-tail start end ends count asc))

-- each end is within
pub end-within : (start : ℕ) (ends : List ℕ) (count row : ℕ) → Ascend start ends count → row < length ends → get_or ends row 0 ≤ count
end-within start ends count row asc below = asc.within (suc row) (omega (arith, below))

-- none is before the start
pub start-least : (start : ℕ) (ends : List ℕ) (count row : ℕ) → Ascend start ends count → row ≤ length ends → start ≤ start_at start ends row
start-least start ends count zero asc below = omega arith
start-least start [] count (suc row) asc below = absurd (omega (arith, below))
start-least start (end ∷ ends) count (suc row) asc below =
    let first = asc.ascend 0 (omega arith) in
    let rest = start-least end ends count row (ascend-tail start end ends count asc) (omega (arith, below)) in
    omega (arith, first, rest)

-- none is behind where a later row begins
pub end-before : (start : ℕ) (ends : List ℕ) (count row later : ℕ) → Ascend start ends count → row < later → later ≤ length ends → get_or ends row 0 ≤ start_at start ends later
end-before start [] count row later asc below fits = absurd (omega (arith, below, fits))
end-before start (end ∷ ends) count row zero asc below fits = absurd (omega (arith, below))
end-before start (end ∷ ends) count zero (suc later) asc below fits = start-least end ends count later (ascend-tail start end ends count asc) (omega (arith, fits))
end-before start (end ∷ ends) count (suc row) (suc later) asc below fits = end-before end ends count row later (ascend-tail start end ends count asc) (omega (arith, below)) (omega (arith, fits))

-- and the last
pub end-last : (start : ℕ) (ends : List ℕ) (count row : ℕ) → Ascend start ends count → row < length ends → get_or ends row 0 ≤ start_at start ends (length ends)
end-last start ends count row asc below = end-before start ends count row (length ends) asc below (omega arith)

-- the last start is the last end
pub start-push : (start : ℕ) (ends : List ℕ) (end : ℕ) → start_at start (ends ++ end ∷ []) (length (ends ++ end ∷ [])) ≡ end
start-push start [] end = refl
start-push start (first ∷ ends) end = start-push first ends end

-- ---- the rows

module _ {X : Type 0} where
  pub count-rows : (start : ℕ) (ends : List ℕ) (items : List X) → length (rows_by start ends items) ≡ length ends
  count-rows start [] items = refl
  count-rows start (end ∷ ends) items = ap suc (count-rows end ends items)

  pub row-at : (start : ℕ) (ends : List ℕ) (items : List X) (row : ℕ) → row < length ends → get_or (rows_by start ends items) row [] ≡ slice_range items (start_at start ends row) (get_or ends row 0)
  row-at start [] items row below = absurd (omega (arith, below))
  row-at start (end ∷ ends) items zero below = refl
  row-at start (end ∷ ends) items (suc row) below = row-at end ends items row (omega (arith, below))

  pub row-past : (start : ℕ) (ends : List ℕ) (items : List X) (row : ℕ) → length ends ≤ row → get_or (rows_by start ends items) row [] ≡ []
  row-past start ends items row past = get_or_past (rows_by start ends items) row [] (omega (arith, past, count-rows start ends items))

  -- of more items
  pub rows-longer : (start : ℕ) (ends : List ℕ) (items more : List X) → ((row : ℕ) → row < length ends → get_or ends row 0 ≤ length items) → rows_by start ends (items ++ more) ≡ rows_by start ends items
  rows-longer start [] items more fits = refl
  rows-longer start (end ∷ ends) items more fits =
      ap₂ (λ (row : List X) (rows : List (List X)). row ∷ rows) (part-longer start end items more (fits 0 (omega arith)))
      (rows-longer end ends items more (λ row below. fits (suc row) (omega (arith, below))))

  -- one row more
  pub rows-push : (start : ℕ) (ends : List ℕ) (end : ℕ) (items : List X) → rows_by start (ends ++ end ∷ []) items ≡ rows_by start ends items ++ slice_range items (start_at start ends (length ends)) end ∷ []
  rows-push start [] end items = refl
  rows-push start (first ∷ ends) end items = ap (λ (rows : List (List X)). slice_range items start first ∷ rows) (rows-push first ends end items)

  -- rows from one on, and up to one
  pub rows-drop : (start : ℕ) (ends : List ℕ) (items : List X) (row : ℕ) → row ≤ length ends → drop row (rows_by start ends items) ≡ rows_by (start_at start ends row) (drop row ends) items
  rows-drop start ends items zero below = refl
  rows-drop start [] items (suc row) below = absurd (omega (arith, below))
  rows-drop start (end ∷ ends) items (suc row) below = rows-drop end ends items row (omega (arith, below))

  pub rows-take : (start : ℕ) (ends : List ℕ) (items : List X) (row : ℕ) → take row (rows_by start ends items) ≡ rows_by start (take row ends) items
  rows-take start ends items zero = refl
  rows-take start [] items (suc row) = refl
  rows-take start (end ∷ ends) items (suc row) = ap (λ (rows : List (List X)). slice_range items start end ∷ rows) (rows-take end ends items row)

  -- those of one on before another
  pub rows-part : (start : ℕ) (ends : List ℕ) (items : List X) (from to : ℕ)
      → rows_by (start_at start ends (min from (min to (length ends)))) (slice_range ends from to) items ≡ slice_range (rows_by start ends items) from to
  rows-part start ends items from to =
      elim (cases_lt (min to (length ends)) from) [
        | inl past ↦
            let all = count-rows start ends items in
            ap (λ found. rows_by (start_at start ends (min from (min to (length ends)))) found items) (part-none from to ends (omega (arith, past)))
            ∙ sym (part-none from to (rows_by start ends items) (omega (arith, past, all)))
        | inr inside ↦
            let same : min from (min to (length ends)) ≡ from = omega (arith, inside) in
            ap (λ row. rows_by (start_at start ends row) (slice_range ends from to) items) same
            ∙ sym (rows-take (start_at start ends from) (drop from ends) items (to - from))
            ∙ ap (take (to - from)) (sym (rows-drop start ends items from (omega (arith, inside))))
      ]

  -- an item that is set before all rows
  pub rows-set_before : (start : ℕ) (ends : List ℕ) (count : ℕ) (items : List X) (i : ℕ) (item : X) → Ascend start ends count → i < start → rows_by start ends (set items i item) ≡ rows_by start ends items
  rows-set_before start [] count items i item asc before = refl
  rows-set_before start (end ∷ ends) count items i item asc before =
      let first = asc.ascend 0 (omega arith) in
      ap₂ (λ (row : List X) (rows : List (List X)). row ∷ rows) (part-set_before start end i item items before)
      (rows-set_before end ends count items i item (ascend-tail start end ends count asc) (omega (arith, first, before)))

  -- and in a row
  pub rows-set : (start : ℕ) (ends : List ℕ) (count : ℕ) (items : List X) (row col : ℕ) (item : X) → Ascend start ends count → row < length ends → start_at start ends row + col < get_or ends row 0
      → rows_by start ends (set items (start_at start ends row + col) item) ≡ set (rows_by start ends items) row (set (get_or (rows_by start ends items) row []) col item)
  rows-set start [] count items row col item asc below inside = absurd (omega (arith, below))
  rows-set start (end ∷ ends) count items zero col item asc below inside =
      ap₂ (λ (row : List X) (rows : List (List X)). row ∷ rows) (part-set start end col item items (omega (arith, inside)))
      (rows-set_before end ends count items (start + col) item (ascend-tail start end ends count asc) inside)
  rows-set start (end ∷ ends) count items (suc row) col item asc below inside =
      let tail = ascend-tail start end ends count asc in
      let first = asc.ascend 0 (omega arith) in
      let least = start-least end ends count row tail (omega (arith, below)) in
      ap₂ (λ (found : List X) (rows : List (List X)). found ∷ rows) (part-set_behind start end (start_at end ends row + col) item items first (omega (arith, least)))
      (rows-set end ends count items row col item tail (omega (arith, below)) inside)

-- of what the items are turned into
pub rows-map : {X Y : Type 0} (f : X → Y) (start : ℕ) (ends : List ℕ) (items : List X) → rows_by start ends (map f items) ≡ map (map f) (rows_by start ends items)
rows-map f start [] items = refl
rows-map {X} {Y} f start (end ∷ ends) items =
    ap₂ (λ (row : List Y) (rows : List (List Y)). row ∷ rows) (part-map f start end items) (rows-map f end ends items)

-- a later row begins no earlier
pub start-up : (start : ℕ) (ends : List ℕ) (count row later : ℕ) → Ascend start ends count → row ≤ later → later ≤ length ends → start_at start ends row ≤ start_at start ends later
start-up start ends count zero later asc up there = start-least start ends count later asc there
start-up start ends count (suc row) zero asc up there = absurd (omega (arith, up))
start-up start [] count (suc row) (suc later) asc up there = absurd (omega (arith, there))
start-up start (end ∷ ends) count (suc row) (suc later) asc up there = start-up end ends count row later (ascend-tail start end ends count asc) (omega (arith, up)) (omega (arith, there))
