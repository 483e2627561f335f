-- The widest cells of the columns: with one more cell, where a row ends, and of the rows at last.
use Rattle.std.proofs.Common.{◌≡◌, ◌≢◌, ◌==◌, ℕ, zero, suc, slice_set, ◌+◌, ◌<◌, ◌≤◌, max, Bool, true, false, nat_lt, List, [], ◌∷◌, ◌++◌, map, take, drop, get_or, length, sum, refl, ap, sym, ◌∙◌, arith, length-append, length-drop}
use Rattle.std.proofs.Math.Seq.{get_or-append_seam}
use Rattle.std.proofs.lemmas.Bool.Decides.{nat_tests}
use Rattle.std.proofs.lemmas.List.{drop-append-le, get_or-set_other, get_or-set_same, get_or_append_left, get_or-take, get_or_past, length-set, length-take, map_push}
use Rattle.std.proofs.lemmas.Simd.{map-map}
use Rattle.grid_records_estimate.specs.Estimates.{greatest}
use Rattle.columns_table.specs.Columns.{AreWidest, cell_widths, end_widths, widest_in}
use Rattle.columns_table.specs.SplitByLengths.{split_by_lengths}
use Rattle.columns_table.specs.Ends.{cells_from, cells_in}
use Rattle.columns_table.specs.Least.{width_in}
use Rattle.columns_table.specs.declared.cells.LineCell.{LineCell}
use Rattle.columns_table.specs.declared.ends.CellEnd.{CellEnd}
use Rattle.columns_table.proofs.SplitByLengths.{split_by_lengths-append, split_by_lengths-map, split_by_lengths-more}

-- ---- numbers with one more

greatest-more : (ns : List ℕ) (n : ℕ) → greatest (ns ++ n ∷ []) ≡ max (greatest ns) n
greatest-more [] n = omega arith
greatest-more (m ∷ ns) n = let rest = greatest-more ns n in omega (arith, rest)

less-than : (n k : ℕ) → n ≤ k → n ≢ k → n < k
less-than n k low other = step (nat_lt n k) refl where
  step : (b : Bool) → nat_lt n k ≡ b → n < k
  step true e = grind (arith, nat_tests, e)
  step false e = let high : k ≤ n = grind (arith, nat_tests, e) in absurd (other (omega (arith, low, high)))

-- it is after all others
push-other : (xs : List ℕ) (x k : ℕ) → k ≢ length xs → get_or (xs ++ x ∷ []) k 0 ≡ get_or xs k 0
push-other xs x k other = step (nat_lt k (length xs)) refl where
  step : (b : Bool) → nat_lt k (length xs) ≡ b → get_or (xs ++ x ∷ []) k 0 ≡ get_or xs k 0
  step true e = get_or_append_left xs (x ∷ []) 0 k (grind (arith, nat_tests, e))
  step false e =
      let low : length xs ≤ k = grind (arith, nat_tests, e) in
      let past : length (xs ++ x ∷ []) ≤ k = omega (arith, less-than (length xs) k low (λ here. other (sym here)), length-append xs (x ∷ [])) in
      get_or_past (xs ++ x ∷ []) k 0 past ∙ sym (get_or_past xs k 0 low)

-- 0 is there already
pub zero-more : (xs : List ℕ) (k : ℕ) → get_or (xs ++ 0 ∷ []) k 0 ≡ get_or xs k 0
zero-more xs k = step (k == length xs) refl where
  step : (b : Bool) → (k == length xs) ≡ b → get_or (xs ++ 0 ∷ []) k 0 ≡ get_or xs k 0
  step true e =
      let here : k ≡ length xs = grind (arith, nat_tests, e) in
      ap (λ i. get_or (xs ++ 0 ∷ []) i 0) here ∙ get_or-append_seam xs 0 [] 0 ∙ sym (get_or_past xs k 0 (omega (arith, here)))
  step false e = push-other xs 0 k (λ here. grind (arith, nat_tests, e, here))

-- what is there already
pub set-same : (xs : List ℕ) (i n : ℕ) → i < length xs → n ≡ get_or xs i 0 → slice_set xs i n ≡ xs
set-same [] i n below is = absurd (omega (arith, below))
set-same (x ∷ xs) zero n below is = ap (λ m. m ∷ xs) is
set-same (x ∷ xs) (suc i) n below is = ap (λ found. x ∷ found) (set-same xs i n (omega (arith, below)) is)

pub AreWidest-wider : (widest counts widths : List ℕ) → AreWidest widest counts widths → AreWidest (widest ++ 0 ∷ []) counts widths
AreWidest-wider widest counts widths are = record {
  long = omega (arith, are.long, length-append widest (0 ∷ []));
  each = λ k. zero-more widest k ∙ are.each k;
}

-- ---- the row that isn't ended

module _ (counts widths : List ℕ) (begun : ℕ) (whole : sum counts + begun ≡ length widths) where
  abbrev last : List ℕ
  last = drop (sum counts) widths

  with-last : (k : ℕ) → widest_in (counts ++ begun ∷ []) widths k ≡ max (widest_in counts widths k) (get_or last k 0)
  with-last k =
      ap (λ (rows : List (List ℕ)). greatest (map (λ row. get_or row k 0) rows)) (split_by_lengths-more counts begun widths whole)
      ∙ ap greatest (map_push (λ (row : List ℕ). get_or row k 0) (split_by_lengths counts widths) last)
      ∙ greatest-more (map (λ row. get_or row k 0) (split_by_lengths counts widths)) (get_or last k 0)

  last-size : length last ≡ begun
  last-size = omega (arith, whole, length-drop (sum counts) widths)

module _ (widest counts widths : List ℕ) (begun width : ℕ) (whole : sum counts + begun ≡ length widths) (are : AreWidest widest (counts ++ begun ∷ []) widths) (inside : begun < length widest) where
  pub whole-more : sum counts + (begun + 1) ≡ length (widths ++ width ∷ [])
  whole-more = omega (arith, whole, length-append widths (width ∷ []))

  fits : sum counts ≤ length widths
  fits = omega (arith, whole)

  abbrev row : List ℕ
  row = drop (sum counts) widths

  with-more : (k : ℕ) → widest_in (counts ++ (begun + 1) ∷ []) (widths ++ width ∷ []) k ≡ max (widest_in counts widths k) (get_or (row ++ width ∷ []) k 0)
  with-more k =
      with-last counts (widths ++ width ∷ []) (begun + 1) whole-more k
      ∙ ap (λ (rows : List (List ℕ)). max (greatest (map (λ row. get_or row k 0) rows)) (get_or (drop (sum counts) (widths ++ width ∷ [])) k 0)) (split_by_lengths-append counts widths (width ∷ []) fits)
      ∙ ap (λ (found : List ℕ). max (widest_in counts widths k) (get_or found k 0)) (drop-append-le (sum counts) widths (width ∷ []) fits)

  pub AreWidest-more : (most : ℕ) → most ≡ max (get_or widest begun 0) width → AreWidest (slice_set widest begun most) (counts ++ (begun + 1) ∷ []) (widths ++ width ∷ [])
  AreWidest-more most is = record {
    long = omega (arith, are.long, inside, length-set widest begun most, greatest-more counts begun, greatest-more counts (begun + 1));
    each = λ k. step k (k == begun) refl;
  }
    where
      size : length row ≡ begun
      size = last-size counts widths begun whole

      step : (k : ℕ) (b : Bool) → (k == begun) ≡ b → get_or (slice_set widest begun most) k 0 ≡ widest_in (counts ++ (begun + 1) ∷ []) (widths ++ width ∷ []) k
      step k true e =
          let here : k ≡ begun = grind (arith, nat_tests, e) in
          let new : get_or (slice_set widest begun most) k 0 ≡ most = ap (λ i. get_or (slice_set widest begun most) i 0) here ∙ get_or-set_same widest begun most 0 inside in
          let none : get_or row k 0 ≡ 0 = get_or_past row k 0 (omega (arith, here, size)) in
          let seam : get_or (row ++ width ∷ []) k 0 ≡ width = ap (λ i. get_or (row ++ width ∷ []) i 0) (here ∙ sym size) ∙ get_or-append_seam row width [] 0 in
          let old : get_or widest k 0 ≡ get_or widest begun 0 = ap (λ i. get_or widest i 0) here in
          omega (arith, new, is, old, are.each k, with-last counts widths begun whole k, none, with-more k, seam)
      step k false e =
          let other : k ≢ begun = λ here. grind (arith, nat_tests, e, here) in
          let not_last : k ≢ length row = λ here. other (here ∙ size) in
          get_or-set_other widest begun k most 0 other
          ∙ are.each k
          ∙ with-last counts widths begun whole k
          ∙ ap (max (widest_in counts widths k)) (sym (push-other row width k not_last))
          ∙ sym (with-more k)

-- there is a place for its next cell, or there will be with one more
pub begun-within : (widest counts widths : List ℕ) (begun : ℕ) → AreWidest widest (counts ++ begun ∷ []) widths → begun ≤ length widest
begun-within widest counts widths begun are = omega (arith, are.long, greatest-more counts begun)

-- ---- the end of a row

module _ (counts widths : List ℕ) (whole : sum counts ≡ length widths) where
  nothing-more : (k : ℕ) → widest_in (counts ++ 0 ∷ []) widths k ≡ widest_in counts widths k
  nothing-more k =
      let all : sum counts + 0 ≡ length widths = omega (arith, whole) in
      let none : get_or (drop (sum counts) widths) k 0 ≡ 0 = get_or_past (drop (sum counts) widths) k 0 (omega (arith, whole, length-drop (sum counts) widths)) in
      omega (arith, with-last counts widths 0 all k, none)

  pub AreWidest-ended : (widest : List ℕ) → AreWidest widest counts widths → AreWidest widest (counts ++ 0 ∷ []) widths
  AreWidest-ended widest are = record { long = omega (arith, are.long, greatest-more counts 0); each = λ k. are.each k ∙ sym (nothing-more k) }

  pub AreWidest-all : (widest : List ℕ) → AreWidest widest (counts ++ 0 ∷ []) widths → AreWidest widest counts widths
  AreWidest-all widest are = record { long = omega (arith, are.long, greatest-more counts 0); each = λ k. are.each k ∙ nothing-more k }

-- ---- the cells that end there

widths-from : (text : List ℕ) (start : ℕ) (ends : List CellEnd) → cell_widths (cells_from text start ends) ≡ end_widths ends
widths-from text start [] = refl
widths-from text start (end ∷ ends) = ap (λ (widths : List ℕ). end.width ∷ widths) (widths-from text (end.end + 1) ends)

pub widths-in : (text : List ℕ) (ends : List CellEnd) → cell_widths (cells_in text ends) ≡ end_widths ends
widths-in text ends = widths-from text 0 ends

-- ---- as many as there are columns

none-behind : (counts widths : List ℕ) (k : ℕ) → greatest counts ≤ k → widest_in counts widths k ≡ 0
none-behind [] widths k past = refl
none-behind (n ∷ ns) widths k past =
    let short : length (take n widths) ≤ k = omega (arith, past, length-take n widths) in
    let first = get_or_past (take n widths) k 0 short in
    let rest = none-behind ns (drop n widths) k (omega (arith, past)) in
    omega (arith, first, rest)

module _ (widest counts : List ℕ) (cells : List LineCell) (are : AreWidest widest counts (cell_widths cells)) where
  of-rows : (k : ℕ) → widest_in counts (cell_widths cells) k ≡ greatest (map (width_in k) (split_by_lengths counts cells))
  of-rows k =
      ap (λ (rows : List (List ℕ)). greatest (map (λ row. get_or row k 0) rows)) (split_by_lengths-map (λ (cell : LineCell). cell.width) counts cells)
      ∙ ap greatest (map-map (λ (row : List ℕ). get_or row k 0) (map (λ (cell : LineCell). cell.width)) (split_by_lengths counts cells))

  pub first-widest : (k : ℕ) → get_or (take (greatest counts) widest) k 0 ≡ greatest (map (width_in k) (split_by_lengths counts cells))
  first-widest k = step (nat_lt k (greatest counts)) refl where
    step : (b : Bool) → nat_lt k (greatest counts) ≡ b → get_or (take (greatest counts) widest) k 0 ≡ greatest (map (width_in k) (split_by_lengths counts cells))
    step true e = get_or-take (greatest counts) widest k 0 (grind (arith, nat_tests, e)) ∙ are.each k ∙ of-rows k
    step false e =
        let past : greatest counts ≤ k = grind (arith, nat_tests, e) in
        get_or_past (take (greatest counts) widest) k 0 (omega (arith, past, length-take (greatest counts) widest))
        ∙ sym (none-behind counts (cell_widths cells) k past)
        ∙ of-rows k
