-- Columns that are chosen, as places and as texts.
use Rattle.std.proofs.Common.{◌≡◌, ◌∙◌, ℕ, ◌+◌, ◌-◌, ◌<◌, List, [], ◌∷◌, ◌++◌, All, Some, None, add-one, ap, ap₂, arith, drop, get_or, inl, inr, length, map, refl, subst, sym, take}
use Rattle.std.specs.Prelude.{Option, slice_range}
use lib.ListN.{get_or-map}
use Rattle.std.proofs.lemmas.Bool.{cases_lt}
use Rattle.std.proofs.lemmas.List.{drop_at, get_or_past, length-append, map_more, take_all}
use Rattle.std.proofs.lemmas.List.Elements.{All-append, All-cons, All-drop, All-nil, All-take}
use Rattle.basinmug_cells.specs.Ends.{Ascend, rows_by, start_at}
use Rattle.basinmug_cells.specs.Places.{place_text}
use Rattle.basinmug_cells.specs.Selecting.{selected, selected_place, selected_text}
use Rattle.basinmug_cells.specs.declared.place.Place.{Place}
use Rattle.basinmug_cells.proofs.Ends.{ascend-more, ascend-push, count-rows, end-within, row-at, rows-longer, rows-push}

module _ (text : List ℕ) (own : List (List ℕ)) where
  abbrev of : Place → List ℕ
  of = place_text text own

  module _ (mark empty : Place) (none : place_text text own empty ≡ []) where
    text-selected : (row : List Place) (column : Option ℕ) → of (selected_place row mark empty column) ≡ selected_text (of mark) (map of row) column
    text-selected row None = refl
    text-selected row (Some column) = sym (get_or-map of row column empty) ∙ ap (λ (d : List ℕ). get_or (map of row) column d) none

    row-selected : (row : List Place) (columns : List (Option ℕ)) → map of (map (selected_place row mark empty) columns) ≡ selected columns (of mark) (map of row)
    row-selected row [] = refl
    row-selected row (column ∷ columns) = ap₂ (λ (t : List ℕ) (ts : List (List ℕ)). t ∷ ts) (text-selected row column) (row-selected row columns)

    -- of rows
    pub rows-selected : (columns : List (Option ℕ)) (rows : List (List Place))
        → map (map of) (map (λ row. map (selected_place row mark empty) columns) rows) ≡ map (selected columns (of mark)) (map (map of) rows)
    rows-selected columns [] = refl
    rows-selected columns (row ∷ rows) = ap₂ (λ (r : List (List ℕ)) (rs : List (List (List ℕ))). r ∷ rs) (row-selected row columns) (rows-selected columns rows)

-- what is true of the places of a row, of the mark and of the empty text is true of what is chosen
pub all-selected : (P : Place → Type 0) (row : List Place) (mark empty : Place) (columns : List (Option ℕ)) → All P row → P mark → P empty → All P (map (selected_place row mark empty) columns)
all-selected P row mark empty [] all is none = All-nil P
all-selected P row mark empty (None ∷ columns) all is none =
    All-cons P mark (map (selected_place row mark empty) columns) is (all-selected P row mark empty columns all is none)
all-selected P row mark empty (Some column ∷ columns) all is none =
    All-cons P (get_or row column empty) (map (selected_place row mark empty) columns) (at column) (all-selected P row mark empty columns all is none)
  where
    at : (k : ℕ) → P (get_or row k empty)
    at k = elim (cases_lt k (length row)) [
      | inl inside ↦ all k empty inside
      | inr past ↦ subst P (sym (get_or_past row k empty past)) none
    ]

-- ---- row by row

module _ (places : List Place) (ends : List ℕ) (asc : Ascend 0 ends (length places)) (mark empty : Place) (columns : List (Option ℕ)) (chosen after : List Place) (chosen_ends : List ℕ) (i count : ℕ)
    (below : i < length ends) (asc_chosen : Ascend 0 chosen_ends (length chosen)) (last : start_at 0 chosen_ends (length chosen_ends) ≡ length chosen)
    (added : after ≡ chosen ++ map (selected_place (slice_range places (start_at 0 ends i) (get_or ends i 0)) mark empty) columns) (long : count ≡ length after) where
  abbrev row : List Place
  row = slice_range places (start_at 0 ends i) (get_or ends i 0)

  abbrev new : List Place
  new = map (selected_place row mark empty) columns

  abbrev g : List Place → List Place
  g these = map (selected_place these mark empty) columns

  size : count - length chosen ≡ length new
  size = omega (arith, long, ap (λ (of : List Place). length of) added, length-append chosen new)

  last-row : slice_range after (start_at 0 chosen_ends (length chosen_ends)) count ≡ new
  last-row =
      ap (λ n. slice_range after n count) last
      ∙ ap (λ (of : List Place). take (count - length chosen) (drop (length chosen) of)) added
      ∙ ap (take (count - length chosen)) (drop_at chosen new (length chosen) refl)
      ∙ take_all (count - length chosen) new (omega (arith, size))

  pub rows-then : rows_by 0 chosen_ends chosen ≡ map g (take i (rows_by 0 ends places)) → rows_by 0 (chosen_ends ++ count ∷ []) after ≡ map g (take (i + 1) (rows_by 0 ends places))
  rows-then before =
      rows-push 0 chosen_ends count after
      ∙ ap₂ (λ (rows : List (List Place)) (one : List Place). rows ++ one ∷ [])
      (ap (rows_by 0 chosen_ends) added ∙ rows-longer 0 chosen_ends chosen new (λ k inside. end-within 0 chosen_ends (length chosen) k asc_chosen inside) ∙ before)
      (last-row ∙ ap g (sym (row-at 0 ends places i below)))
      ∙ sym (map_more g (rows_by 0 ends places) i [] (omega (arith, below, count-rows 0 ends places)))

  pub ascend-then : Ascend 0 (chosen_ends ++ count ∷ []) (length after)
  ascend-then =
      subst (λ n. Ascend 0 (chosen_ends ++ n ∷ []) (length after)) (sym long)
      (ascend-push 0 chosen_ends (length after)
      (ascend-more 0 chosen_ends (length chosen) (length after) (omega (arith, ap (λ (of : List Place). length of) added, length-append chosen new)) asc_chosen))

  pub all-then : (P : Place → Type 0) → All P places → P mark → P empty → All P chosen → All P after
  all-then P all is none before =
      subst (All P) (sym added)
      (All-append P chosen new before
      (all-selected P row mark empty columns (All-take P (get_or ends i 0 - start_at 0 ends i) (drop (start_at 0 ends i) places) (All-drop P (start_at 0 ends i) places all)) is none))

pub start-behind : (start : ℕ) (ends : List ℕ) (i : ℕ) → start_at start ends (i + 1) ≡ get_or ends i 0
start-behind start ends i = ap (λ n. get_or (start ∷ ends) n 0) (add-one i)
