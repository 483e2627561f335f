-- Cells as they are kept: a part of them, one of them, and one more.
use Rattle.std.proofs.Common.{◌≡◌, ℕ, zero, suc, ◌-◌, ◌<◌, ◌≤◌, All, Option, None, Some, List, [], ◌∷◌, map, length, take, drop, get_or, refl, ap, sym, subst, ◌∙◌, arith, length-drop}
use Rattle.std.specs.List.{slice_get}
use Rattle.std.specs.Option.{option_map}
use Rattle.std.specs.Prelude.{slice_range}
use Rattle.std.proofs.lemmas.List.{take_all}
use Rattle.std.proofs.lemmas.List.Elements.{All-head, All-tail}
use Rattle.grid_records_traits.specs.SingleLines.{IsSingleLine}
use Rattle.columns_table.specs.Cells.{cell_of, cells_of}
use Rattle.columns_table.specs.Least.{width_in}
use Rattle.columns_table.specs.Records.{IsSingleLineCell}
use Rattle.columns_table.specs.declared.cells.LineCell.{LineCell}
use Rattle.columns_table.proofs.Records.{empty_single_line}

pub length-cells : (widths : List ℕ) (texts : List (List ℕ)) → length (cells_of widths texts) ≡ length texts
length-cells widths [] = refl
length-cells [] (text ∷ texts) = ap suc (length-cells [] texts)
length-cells (width ∷ widths) (text ∷ texts) = ap suc (length-cells widths texts)

pub texts-cells : (widths : List ℕ) (texts : List (List ℕ)) → map (λ cell. cell.text.now) (cells_of widths texts) ≡ texts
texts-cells widths [] = refl
texts-cells [] (text ∷ texts) = ap (λ rest. text ∷ rest) (texts-cells [] texts)
texts-cells (width ∷ widths) (text ∷ texts) = ap (λ rest. text ∷ rest) (texts-cells widths texts)

-- ---- a part of them

drop-none : (n : ℕ) → drop n (let none : List ℕ = [] in none) ≡ []
drop-none zero = refl
drop-none (suc n) = refl

take-none : (n : ℕ) → take n (let none : List ℕ = [] in none) ≡ []
take-none zero = refl
take-none (suc n) = refl

pub drop-cells : (n : ℕ) (widths : List ℕ) (texts : List (List ℕ)) → cells_of (drop n widths) (drop n texts) ≡ drop n (cells_of widths texts)
drop-cells zero widths texts = refl
drop-cells (suc n) widths [] = refl
drop-cells (suc n) [] (text ∷ texts) = ap (λ ws. cells_of ws (drop n texts)) (sym (drop-none n)) ∙ drop-cells n [] texts
drop-cells (suc n) (width ∷ widths) (text ∷ texts) = drop-cells n widths texts

take-cells : (n : ℕ) (widths : List ℕ) (texts : List (List ℕ)) → cells_of (take n widths) (take n texts) ≡ take n (cells_of widths texts)
take-cells zero widths texts = refl
take-cells (suc n) widths [] = refl
take-cells (suc n) [] (text ∷ texts) =
    ap (λ cells. cell_of text (length text) ∷ cells) (ap (λ ws. cells_of ws (take n texts)) (sym (take-none n)) ∙ take-cells n [] texts)
take-cells (suc n) (width ∷ widths) (text ∷ texts) = ap (λ cells. cell_of text width ∷ cells) (take-cells n widths texts)

pub range-cells : (widths : List ℕ) (texts : List (List ℕ)) (start end : ℕ) → cells_of (slice_range widths start end) (slice_range texts start end) ≡ slice_range (cells_of widths texts) start end
range-cells widths texts start end = take-cells (end - start) (drop start widths) (drop start texts) ∙ ap (take (end - start)) (drop-cells start widths texts)

-- all from a number on
pub behind-cells : (widths : List ℕ) (texts : List (List ℕ)) (count n : ℕ) → length texts ≤ n → slice_range (cells_of widths texts) count n ≡ drop count (cells_of widths texts)
behind-cells widths texts count n long =
    let fits : length (drop count (cells_of widths texts)) ≤ n - count = omega (arith, long, length-cells widths texts, length-drop count (cells_of widths texts)) in
    take_all (n - count) (drop count (cells_of widths texts)) fits

-- ---- one of them

nothing-at : (k d : ℕ) → get_or [] k d ≡ d
nothing-at zero d = refl
nothing-at (suc k) d = refl

pub get-some : (widths : List ℕ) (texts : List (List ℕ)) (k : ℕ) (text : List ℕ) → slice_get texts k ≡ Some text
    → slice_get (cells_of widths texts) k ≡ Some (cell_of text (get_or widths k (length text)))
get-some widths [] k text is = absurd (cc is)
get-some [] (first ∷ texts) zero text is = ap (option_map (λ (t : List ℕ). cell_of t (length t))) is
get-some [] (first ∷ texts) (suc k) text is = get-some [] texts k text is ∙ ap (λ n. Some (cell_of text n)) (nothing-at k (length text))
get-some (width ∷ widths) (first ∷ texts) zero text is = ap (option_map (λ (t : List ℕ). cell_of t width)) is
get-some (width ∷ widths) (first ∷ texts) (suc k) text is = get-some widths texts k text is

pub get-none : (widths : List ℕ) (texts : List (List ℕ)) (k : ℕ) → slice_get texts k ≡ None → slice_get (cells_of widths texts) k ≡ None
get-none widths [] k none = refl
get-none [] (first ∷ texts) zero none = absurd (cc none)
get-none [] (first ∷ texts) (suc k) none = get-none [] texts k none
get-none (width ∷ widths) (first ∷ texts) zero none = absurd (cc none)
get-none (width ∷ widths) (first ∷ texts) (suc k) none = get-none widths texts k none

-- what it measures
pub width-cells : (widths : List ℕ) (texts : List (List ℕ)) (k : ℕ) (d : List ℕ) → k < length texts → width_in k (cells_of widths texts) ≡ get_or widths k (length (get_or texts k d))
width-cells widths [] k d below = absurd (omega (arith, below))
width-cells [] (text ∷ texts) zero d below = refl
width-cells [] (text ∷ texts) (suc k) d below = width-cells [] texts k d (omega (arith, below)) ∙ nothing-at k (length (get_or texts k d))
width-cells (width ∷ widths) (text ∷ texts) zero d below = refl
width-cells (width ∷ widths) (text ∷ texts) (suc k) d below = width-cells widths texts k d (omega (arith, below))

-- after them nothing
pub width-past : (cells : List LineCell) (k : ℕ) → length cells ≤ k → width_in k cells ≡ 0
width-past [] k past = nothing-at k 0
width-past (cell ∷ cells) zero past = absurd (omega (arith, past))
width-past (cell ∷ cells) (suc k) past = width-past cells k (omega (arith, past))

-- the cell that is found
pub text-some : (cells : List LineCell) (k : ℕ) (cell : LineCell) → slice_get cells k ≡ Some cell → get_or (map (λ cell. cell.text.now) cells) k [] ≡ cell.text.now
text-some [] k cell is = absurd (cc is)
text-some (first ∷ cells) zero cell is = ap (λ (found : Option LineCell). option_text found) is where
  option_text : Option LineCell → List ℕ
  option_text None = []
  option_text (Some cell) = cell.text.now
text-some (first ∷ cells) (suc k) cell is = text-some cells k cell is

pub text-none : (cells : List LineCell) (k : ℕ) → slice_get cells k ≡ None → get_or (map (λ cell. cell.text.now) cells) k [] ≡ []
text-none [] zero none = refl
text-none [] (suc k) none = refl
text-none (first ∷ cells) zero none = absurd (cc none)
text-none (first ∷ cells) (suc k) none = text-none cells k none

pub each-some : (P : LineCell → Type 0) (cells : List LineCell) (k : ℕ) (cell : LineCell) → slice_get cells k ≡ Some cell → All P cells → P cell
each-some P [] k cell is all = absurd (cc is)
each-some P (first ∷ cells) zero cell is all = subst (λ (found : Option LineCell). of_found found) is (All-head P first cells all) where
  of_found : Option LineCell → Type 0
  of_found None = Unit {0}
  of_found (Some cell) = P cell
each-some P (first ∷ cells) (suc k) cell is all = each-some P cells k cell is (All-tail P first cells all)

-- ---- cells of one line each

pub plain-cells : (widths : List ℕ) (texts : List (List ℕ)) → length widths ≤ length texts → All IsSingleLineCell (cells_of widths texts)
    → (k : ℕ) → IsSingleLine (get_or texts k []) (get_or widths k (length (get_or texts k [])))
plain-cells [] [] within measured zero = empty_single_line
plain-cells [] [] within measured (suc k) = empty_single_line
plain-cells (width ∷ widths) [] within measured k = absurd (omega (arith, within))
plain-cells [] (text ∷ texts) within measured zero = All-head IsSingleLineCell (cell_of text (length text)) (cells_of [] texts) measured
plain-cells [] (text ∷ texts) within measured (suc k) =
    subst (IsSingleLine (get_or texts k [])) (nothing-at k (length (get_or texts k [])))
    (plain-cells [] texts (omega arith) (All-tail IsSingleLineCell (cell_of text (length text)) (cells_of [] texts) measured) k)
plain-cells (width ∷ widths) (text ∷ texts) within measured zero = All-head IsSingleLineCell (cell_of text width) (cells_of widths texts) measured
plain-cells (width ∷ widths) (text ∷ texts) within measured (suc k) =
    plain-cells widths texts (omega (arith, within)) (All-tail IsSingleLineCell (cell_of text width) (cells_of widths texts) measured) k
