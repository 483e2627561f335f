-- Ends of cells as they are kept: one more of them, and the cells of a text.
use Rattle.std.proofs.Common.{◌≡◌, ℕ, zero, suc, ◌+◌, ◌-◌, ◌<◌, ◌≤◌, List, [], ◌∷◌, ◌++◌, length, get_or, refl, ap, sym, subst, ◌∙◌, arith, length-append}
use Rattle.std.specs.List.{AllByRecursion}
use Rattle.std.specs.Prelude.{slice_range}
use Rattle.std.proofs.lemmas.List.Edits.{length-between}
use Rattle.grid_records_traits.specs.SingleLines.{AreStarts, IsTextAt, texts_at, texts_from}
use Rattle.columns_table.specs.Cells.{cell_of, cells_of}
use Rattle.columns_table.specs.Ends.{AreCellEnds, AreEndsFrom, IsTextIn, cells_from, cells_in, start_behind, start_behind_from}
use Rattle.columns_table.specs.KeptEnds.{AreFromStart, ends_from, ends_of}
use Rattle.columns_table.specs.declared.ends.CellEnd.{CellEnd}

-- an end and its columns
abbrev pub made : ℕ → ℕ → CellEnd
made end width = record { end = end; width = width }

-- ---- one more

behind-more : (starts : List ℕ) (end : ℕ) → AllByRecursion (λ next. 0 < next) starts → AllByRecursion (λ next. 0 < next) (starts ++ (end + 1) ∷ [])
behind-more [] end behind = (omega arith, tt)
behind-more (next ∷ starts) end behind = (behind.0, behind-more starts end behind.1)

-- with its bytes
bytes-more_from : (widths : List ℕ) (start : ℕ) (starts : List ℕ) (next : ℕ) → length widths ≤ length starts
    → ends_from widths start (starts ++ next ∷ []) ≡ ends_from widths start starts ++ made (next - 1) (next - 1 - get_or (start ∷ starts) (length starts) 0) ∷ []
bytes-more_from [] start [] next fits = refl
bytes-more_from (w ∷ widths) start [] next fits = absurd (omega (arith, fits))
bytes-more_from [] start (first ∷ starts) next fits = ap (λ ends. made (first - 1) (first - 1 - start) ∷ ends) (bytes-more_from [] first starts next (omega arith))
bytes-more_from (w ∷ widths) start (first ∷ starts) next fits = ap (λ ends. made (first - 1) w ∷ ends) (bytes-more_from widths first starts next (omega (arith, fits)))

-- with its columns, where each before has its own
width-more_from : (widths : List ℕ) (start : ℕ) (starts : List ℕ) (width next : ℕ) → length widths ≡ length starts
    → ends_from (widths ++ width ∷ []) start (starts ++ next ∷ []) ≡ ends_from widths start starts ++ made (next - 1) width ∷ []
width-more_from [] start [] width next long = refl
width-more_from [] start (first ∷ starts) width next long = absurd (omega (arith, long))
width-more_from (w ∷ widths) start [] width next long = absurd (omega (arith, long))
width-more_from (w ∷ widths) start (first ∷ starts) width next long = ap (λ ends. made (first - 1) w ∷ ends) (width-more_from widths first starts width next (omega (arith, long)))

end-is : (end width other : ℕ) → width ≡ other → made (end + 1 - 1) other ≡ made end width
end-is end width other same = let one : end + 1 - 1 ≡ end = omega arith in ap (λ n. made n other) one ∙ ap (made end) (sym same)

pub bytes-more : (widths starts pushed : List ℕ) (cell : CellEnd) (last : ℕ) → AreFromStart starts → length widths < length starts
    → last ≡ get_or starts (length starts - 1) 0 → cell.width ≡ cell.end - last → pushed ≡ starts ++ (cell.end + 1) ∷ [] → ends_of widths pushed ≡ ends_of widths starts ++ cell ∷ []
bytes-more widths [] pushed cell last from fits at width more = absurd from
bytes-more widths (start ∷ starts) pushed cell last from fits at width more =
    let place : suc (length starts) - 1 ≡ length starts = omega arith in
    let one : cell.end + 1 - 1 ≡ cell.end = omega arith in
    let bytes : cell.width ≡ cell.end + 1 - 1 - get_or (start ∷ starts) (length starts) 0 =
    width ∙ ap (λ n. cell.end - n) (at ∙ ap (λ k. get_or (start ∷ starts) k 0) place) ∙ ap (λ n. n - get_or (start ∷ starts) (length starts) 0) (sym one) in
    ap (ends_of widths) more ∙ bytes-more_from widths start starts (cell.end + 1) (omega (arith, fits)) ∙ ap (λ last. ends_from widths start starts ++ last ∷ []) (end-is cell.end cell.width _ bytes)

pub width-more : (widths starts : List ℕ) (cell : CellEnd) → AreFromStart starts → length widths + 1 ≡ length starts
    → ends_of (widths ++ cell.width ∷ []) (starts ++ (cell.end + 1) ∷ []) ≡ ends_of widths starts ++ cell ∷ []
width-more widths [] cell from long = absurd from
width-more widths (start ∷ starts) cell from long =
    width-more_from widths start starts cell.width (cell.end + 1) (omega (arith, long)) ∙ ap (λ last. ends_from widths start starts ++ last ∷ []) (end-is cell.end cell.width cell.width refl)

-- a cell takes its bytes whether that is kept or not
given_from : (widths : List ℕ) (start : ℕ) (starts : List ℕ) → length widths < length starts
    → ends_from (widths ++ (get_or starts (length widths) 0 - 1 - get_or (start ∷ starts) (length widths) 0) ∷ []) start starts ≡ ends_from widths start starts
given_from widths start [] below = absurd (omega (arith, below))
given_from [] start (next ∷ starts) below = refl
given_from (width ∷ widths) start (next ∷ starts) below = ap (λ ends. made (next - 1) width ∷ ends) (given_from widths next starts (omega (arith, below)))

pub given : (widths starts pushed : List ℕ) (bytes : ℕ) → length widths + 1 < length starts → bytes ≡ get_or starts (length widths + 1) 0 - 1 - get_or starts (length widths) 0
    → pushed ≡ widths ++ bytes ∷ [] → (length pushed < length starts) × (ends_of pushed starts ≡ ends_of widths starts)
given widths [] pushed bytes below is more = absurd (omega (arith, below))
given widths (start ∷ starts) pushed bytes below is more =
    let next : length widths + 1 ≡ suc (length widths) = omega arith in
    let same : bytes ≡ get_or starts (length widths) 0 - 1 - get_or (start ∷ starts) (length widths) 0 =
    is ∙ ap (λ k. get_or (start ∷ starts) k 0 - 1 - get_or (start ∷ starts) (length widths) 0) next in (
      omega (arith, below, ap (λ (ns : List ℕ). length ns) more, length-append widths (bytes ∷ [])),
      ap (λ ns. ends_from ns start starts) more ∙ ap (λ n. ends_from (widths ++ n ∷ []) start starts) same ∙ given_from widths start starts (omega (arith, below)),
    )

-- ---- where one more begins

next-is : (next : ℕ) → 0 < next → next - 1 + 1 ≡ next
next-is next behind = omega arith

last-start_from : (widths : List ℕ) (start : ℕ) (starts : List ℕ) → AllByRecursion (λ next. 0 < next) starts → start_behind_from start (ends_from widths start starts) ≡ get_or (start ∷ starts) (length starts) 0
last-start_from widths start [] behind = refl
last-start_from [] start (next ∷ starts) behind = ap (λ n. start_behind_from n (ends_from [] next starts)) (next-is next behind.0) ∙ last-start_from [] next starts behind.1
last-start_from (width ∷ widths) start (next ∷ starts) behind = ap (λ n. start_behind_from n (ends_from widths next starts)) (next-is next behind.0) ∙ last-start_from widths next starts behind.1

pub last-start : (widths starts : List ℕ) → AreFromStart starts → start_behind (ends_of widths starts) ≡ get_or starts (length starts - 1) 0
last-start widths [] from = absurd from
last-start widths (start ∷ starts) from =
    let place : length starts ≡ suc (length starts) - 1 = omega arith in
    ap (λ n. start_behind_from n (ends_from widths start starts)) (sym from.0) ∙ last-start_from widths start starts from.1 ∙ ap (λ k. get_or (start ∷ starts) k 0) place

-- ---- the cells of a text

text-at : (text : List ℕ) (start next : ℕ) → 0 < next → IsTextIn text start (next - 1) → IsTextAt text start next
text-at text start next behind is = (omega (arith, behind, is.0), is.1, is.2)

starts-in_from : (text widths : List ℕ) (start : ℕ) (starts : List ℕ) → AllByRecursion (λ next. 0 < next) starts → AreEndsFrom text start (ends_from widths start starts) → (i : ℕ) → i < length starts
    → IsTextAt text (get_or (start ∷ starts) i 0) (get_or starts i 0)
starts-in_from text widths start [] behind fit i below = absurd (omega (arith, below))
starts-in_from text [] start (next ∷ starts) behind fit zero below = text-at text start next behind.0 fit.0
starts-in_from text [] start (next ∷ starts) behind fit (suc i) below =
    starts-in_from text [] next starts behind.1 (subst (λ n. AreEndsFrom text n (ends_from [] next starts)) (next-is next behind.0) fit.1) i (omega (arith, below))
starts-in_from text (width ∷ widths) start (next ∷ starts) behind fit zero below = text-at text start next behind.0 fit.0
starts-in_from text (width ∷ widths) start (next ∷ starts) behind fit (suc i) below =
    starts-in_from text widths next starts behind.1 (subst (λ n. AreEndsFrom text n (ends_from widths next starts)) (next-is next behind.0) fit.1) i (omega (arith, below))

pub starts-in : (text widths starts : List ℕ) → AreFromStart starts → AreCellEnds text (ends_of widths starts) → AreStarts text starts
starts-in text widths [] from fit = absurd from
starts-in text widths (start ∷ starts) from fit = λ i below.
    let next : i + 1 ≡ suc i = omega arith in
    subst (λ k. IsTextAt text (get_or (start ∷ starts) i 0) (get_or (start ∷ starts) k 0)) (sym next)
    (starts-in_from text widths start starts from.1 (subst (λ n. AreEndsFrom text n (ends_from widths start starts)) (sym from.0) fit) i (omega (arith, below)))

cells-in_from : (text widths : List ℕ) (start : ℕ) (starts : List ℕ) → AllByRecursion (λ next. 0 < next) starts → AreEndsFrom text start (ends_from widths start starts)
    → cells_of widths (texts_from text start starts) ≡ cells_from text start (ends_from widths start starts)
cells-in_from text widths start [] behind fit = refl
cells-in_from text [] start (next ∷ starts) behind fit =
    let part = slice_range text start (next - 1) in
    let again = next-is next behind.0 in
    let rest : AreEndsFrom text next (ends_from [] next starts) = subst (λ n. AreEndsFrom text n (ends_from [] next starts)) again fit.1 in
    ap (λ n. cell_of part n ∷ cells_of [] (texts_from text next starts)) (length-between text start (next - 1) fit.0.2.0)
    ∙ ap (λ cells. cell_of part (next - 1 - start) ∷ cells) (cells-in_from text [] next starts behind.1 rest ∙ ap (λ n. cells_from text n (ends_from [] next starts)) (sym again))
cells-in_from text (width ∷ widths) start (next ∷ starts) behind fit =
    let part = slice_range text start (next - 1) in
    let again = next-is next behind.0 in
    let rest : AreEndsFrom text next (ends_from widths next starts) = subst (λ n. AreEndsFrom text n (ends_from widths next starts)) again fit.1 in
    ap (λ cells. cell_of part width ∷ cells) (cells-in_from text widths next starts behind.1 rest ∙ ap (λ n. cells_from text n (ends_from widths next starts)) (sym again))

pub cells-in : (text widths starts : List ℕ) → AreFromStart starts → AreCellEnds text (ends_of widths starts) → cells_of widths (texts_at text starts) ≡ cells_in text (ends_of widths starts)
cells-in text widths [] from fit = absurd from
cells-in text widths (start ∷ starts) from fit =
    let first = sym from.0 in
    cells-in_from text widths start starts from.1 (subst (λ n. AreEndsFrom text n (ends_from widths start starts)) first fit) ∙ ap (λ n. cells_from text n (ends_from widths start starts)) from.0
