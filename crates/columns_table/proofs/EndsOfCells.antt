-- Cells of a text by where they end: one more of them, and more text.
use Rattle.std.proofs.Common.{◌≡◌, ℕ, zero, suc, ◌+◌, ◌-◌, ◌<◌, ◌≤◌, Bool, true, false, nat_lt, List, [], ◌∷◌, ◌++◌, length, take, drop, get_or, refl, ap, sym, subst, ◌∙◌, arith, append_assoc, length-append, length-drop}
use Rattle.std.specs.Prelude.{slice_range}
use Rattle.std.specs.Str.{IsCharBoundary, IsUtf8}
use Rattle.std.proofs.lemmas.Bool.Decides.{nat_tests}
use Rattle.std.proofs.lemmas.List.{drop-append-le, get_or_append_left, take-append-le}
use Rattle.std.proofs.lemmas.Str.{IsCharBoundary-at_seam, IsUtf8-append, IsUtf8-from_ascii}
use Rattle.ansi_scan.proofs.Reading.{slice_range-middle}
use Rattle.columns_table.specs.Cells.{cell_of}
use Rattle.columns_table.specs.Ends.{AreCellEnds, AreEndsFrom, IsTextIn, cells_from, cells_in, start_behind, start_behind_from}
use Rattle.columns_table.specs.declared.ends.CellEnd.{CellEnd}

length-cells_from : (text : List ℕ) (start : ℕ) (ends : List CellEnd) → length (cells_from text start ends) ≡ length ends
length-cells_from text start [] = refl
length-cells_from text start (cell ∷ ends) = ap suc (length-cells_from text (cell.end + 1) ends)

pub length-cells_in : (text : List ℕ) (ends : List CellEnd) → length (cells_in text ends) ≡ length ends
length-cells_in text ends = length-cells_from text 0 ends

-- ---- one more

start-more_from : (start : ℕ) (ends : List CellEnd) (cell : CellEnd) → start_behind_from start (ends ++ cell ∷ []) ≡ cell.end + 1
start-more_from start [] cell = refl
start-more_from start (first ∷ ends) cell = start-more_from (first.end + 1) ends cell

pub start-more : (ends : List CellEnd) (cell : CellEnd) → start_behind (ends ++ cell ∷ []) ≡ cell.end + 1
start-more ends cell = start-more_from 0 ends cell

cells-more_from : (text : List ℕ) (start : ℕ) (ends : List CellEnd) (cell : CellEnd)
    → cells_from text start (ends ++ cell ∷ []) ≡ cells_from text start ends ++ cell_of (slice_range text (start_behind_from start ends) cell.end) cell.width ∷ []
cells-more_from text start [] cell = refl
cells-more_from text start (first ∷ ends) cell = ap (λ cells. cell_of (slice_range text start first.end) first.width ∷ cells) (cells-more_from text (first.end + 1) ends cell)

pub cells-more : (text : List ℕ) (ends : List CellEnd) (cell : CellEnd)
    → cells_in text (ends ++ cell ∷ []) ≡ cells_in text ends ++ cell_of (slice_range text (start_behind ends) cell.end) cell.width ∷ []
cells-more text ends cell = cells-more_from text 0 ends cell

fit-more_from : (text : List ℕ) (start : ℕ) (ends : List CellEnd) (cell : CellEnd) → AreEndsFrom text start ends → IsTextIn text (start_behind_from start ends) cell.end
    → AreEndsFrom text start (ends ++ cell ∷ [])
fit-more_from text start [] cell fit is = (is, tt)
fit-more_from text start (first ∷ ends) cell fit is = (fit.0, fit-more_from text (first.end + 1) ends cell fit.1 is)

pub fit-more : (text : List ℕ) (ends : List CellEnd) (cell : CellEnd) → AreCellEnds text ends → IsTextIn text (start_behind ends) cell.end → AreCellEnds text (ends ++ cell ∷ [])
fit-more text ends cell fit is = fit-more_from text 0 ends cell fit is

-- ---- in more text

-- a place in a text is one in that text with more after it
pub boundary-longer : (text more : List ℕ) (i : ℕ) → IsUtf8 more → IsCharBoundary text i → IsCharBoundary (text ++ more) i
boundary-longer text more i utf8 is = step (nat_lt i (length text)) refl where
  step : (b : Bool) → nat_lt i (length text) ≡ b → IsCharBoundary (text ++ more) i
  step true e =
      let inside : i < length text = grind (arith, nat_tests, e) in
      let same : get_or (text ++ more) i 0 ≡ get_or text i 0 = get_or_append_left text more 0 i inside in (
        omega (arith, inside, length-append text more),
        λ below high. subst (λ n. 192 ≤ n) (sym same) (is.1 inside (subst (λ n. 128 ≤ n) same high)),
      )
  step false e =
      let past : length text ≤ i = grind (arith, nat_tests, e) in
      let here : length text ≡ i = omega (arith, past, is.0) in
      subst (IsCharBoundary (text ++ more)) here (IsCharBoundary-at_seam (text ++ more) text more refl utf8)

pub text-longer : (text more : List ℕ) (start end : ℕ) → IsUtf8 more → IsTextIn text start end → IsTextIn (text ++ more) start end
text-longer text more start end utf8 is = (is.0, boundary-longer text more start utf8 is.1, boundary-longer text more end utf8 is.2)

slice-longer : (text more : List ℕ) (start end : ℕ) → start ≤ end → end ≤ length text → slice_range (text ++ more) start end ≡ slice_range text start end
slice-longer text more start end order inside =
    ap (take (end - start)) (drop-append-le start text more (omega (arith, order, inside)))
    ∙ take-append-le (end - start) (drop start text) more (omega (arith, order, inside, length-drop start text))

fit-longer_from : (text more : List ℕ) (start : ℕ) (ends : List CellEnd) → IsUtf8 more → AreEndsFrom text start ends → AreEndsFrom (text ++ more) start ends
fit-longer_from text more start [] utf8 fit = tt
fit-longer_from text more start (cell ∷ ends) utf8 fit = (text-longer text more start cell.end utf8 fit.0, fit-longer_from text more (cell.end + 1) ends utf8 fit.1)

pub fit-longer : (text more : List ℕ) (ends : List CellEnd) → IsUtf8 more → AreCellEnds text ends → AreCellEnds (text ++ more) ends
fit-longer text more ends utf8 fit = fit-longer_from text more 0 ends utf8 fit

cells-longer_from : (text more : List ℕ) (start : ℕ) (ends : List CellEnd) → AreEndsFrom text start ends → cells_from (text ++ more) start ends ≡ cells_from text start ends
cells-longer_from text more start [] fit = refl
cells-longer_from text more start (cell ∷ ends) fit =
    ap (λ part. cell_of part cell.width ∷ cells_from (text ++ more) (cell.end + 1) ends) (slice-longer text more start cell.end fit.0.0 fit.0.2.0)
    ∙ ap (λ cells. cell_of (slice_range text start cell.end) cell.width ∷ cells) (cells-longer_from text more (cell.end + 1) ends fit.1)

pub cells-longer : (text more : List ℕ) (ends : List CellEnd) → AreCellEnds text ends → cells_in (text ++ more) ends ≡ cells_in text ends
cells-longer text more ends fit = cells-longer_from text more 0 ends fit

-- ---- a text that is written, one cell after the other, each ended by one byte

module _ (text part : List ℕ) (separator : ℕ) (ends : List CellEnd) (cell : CellEnd) (utf8 : IsUtf8 part) (ascii : separator < 128) (begins : start_behind ends ≡ length text) (ended : cell.end ≡ length (text ++ part)) (fit : AreCellEnds text ends) where
  abbrev more : List ℕ
  more = part ++ separator ∷ []

  utf8-separator : IsUtf8 (separator ∷ [])
  utf8-separator = IsUtf8-from_ascii (separator ∷ []) below where
    below : (i : ℕ) → get_or (separator ∷ []) i 0 < 128
    below zero = ascii
    below (suc zero) = omega arith
    below (suc (suc i)) = omega arith

  utf8-more : IsUtf8 more
  utf8-more = IsUtf8-append part (separator ∷ []) utf8 utf8-separator

  joined : text ++ part ++ separator ∷ [] ≡ text ++ more
  joined = append_assoc text part (separator ∷ [])

  here : IsTextIn (text ++ more) (start_behind ends) cell.end
  here = (
    omega (arith, begins, ended, length-append text part),
    subst (IsCharBoundary (text ++ more)) (sym begins) (IsCharBoundary-at_seam (text ++ more) text more refl utf8-more),
    subst (IsCharBoundary (text ++ more)) (sym ended) (IsCharBoundary-at_seam (text ++ more) (text ++ part) (separator ∷ []) (sym joined) utf8-separator),
  )

  part-is : slice_range (text ++ more) (start_behind ends) cell.end ≡ part
  part-is =
      let places : cell.end ≡ length text + length part = ended ∙ length-append text part in
      ap (λ n. slice_range (text ++ more) n cell.end) begins ∙ ap (slice_range (text ++ more) (length text)) places ∙ slice_range-middle text part (separator ∷ [])

  pub fit-written : AreCellEnds (text ++ part ++ separator ∷ []) (ends ++ cell ∷ [])
  fit-written = subst (λ longer. AreCellEnds longer (ends ++ cell ∷ [])) (sym joined) (fit-more (text ++ more) ends cell (fit-longer text more ends utf8-more fit) here)

  pub cells-written : cells_in (text ++ part ++ separator ∷ []) (ends ++ cell ∷ []) ≡ cells_in text ends ++ cell_of part cell.width ∷ []
  cells-written =
      ap (λ longer. cells_in longer (ends ++ cell ∷ [])) joined
      ∙ cells-more (text ++ more) ends cell
      ∙ ap (λ cells. cells ++ cell_of (slice_range (text ++ more) (start_behind ends) cell.end) cell.width ∷ []) (cells-longer text more ends fit)
      ∙ ap (λ found. cells_in text ends ++ cell_of found cell.width ∷ []) part-is

  pub start-written : start_behind (ends ++ cell ∷ []) ≡ length (text ++ part ++ separator ∷ [])
  start-written = start-more ends cell ∙ omega (arith, ended, length-append (text ++ part) (separator ∷ []))
