-- The texts of a row, in so many columns, and an empty cell.
use Rattle.std.proofs.Common.{◌≡◌, ℕ, zero, suc, ◌-◌, ◌<◌, List, [], ◌∷◌, ◌++◌, length, take, replicate, get_or, refl, ap, sym, ◌∙◌, arith}
use Rattle.std.proofs.lemmas.List.{get_or-replicate}
use Rattle.std.specs.Str.{chars}
use Rattle.unicode_width.specs.Width.{str_width}
use Rattle.ansi_scan.specs.Sequences.{Piece, ArePiecesOf}
use Rattle.ansi_scan.proofs.Uniqueness.{pieces-ArePiecesOf}
use Rattle.grid_records_measure.specs.TextLines.{AreLinesOf, shown_lines, widest}
use Rattle.std.proofs.lemmas.List.Elements.{All-from_recursion}
use Rattle.ansi_str.specs.Lines.{IsClosedLine}
use Rattle.grid_records_measure.proofs.LinesAndBlocks.{length-lines, lines-joined}
use Rattle.grid_records_traits.specs.Cells.{HasLineCount, HasWidth, IsLineAt}
use Rattle.grid_records_traits.specs.SingleLines.{IsSingleLine}
use Rattle.grid_records_traits.specs.Rows.{evened_row}
use Rattle.papergrid_picture.proofs.Shown.{pieces-nothing}

-- ---- an empty cell

no_pieces : (ps : List Piece) → ArePiecesOf [] ps → [] ≡ ps
no_pieces ps of_text = sym pieces-nothing ∙ pieces-ArePiecesOf [] ps of_text

empty_line_count : HasLineCount [] 1
empty_line_count = λ ps of_text. ap (λ found. length (shown_lines found)) (no_pieces ps of_text)

no_width : 0 ≡ widest ([] ∷ [])
unfolding chars str_width
no_width = refl

empty_width : HasWidth [] 0
empty_width = λ ps of_text. no_width ∙ ap (λ found. widest (shown_lines found)) (no_pieces ps of_text)

-- a closed line is the first one of itself
pub first_line : (text : List ℕ) → IsClosedLine text → IsLineAt text 0 text
first_line text closed = λ ps lines of_text are.
    let some : 0 < length (text ∷ []) = omega arith in
    sym (ap (λ (all : List (List ℕ)). get_or all 0 []) (lines-joined (text ∷ []) lines ps some (All-from_recursion IsClosedLine (text ∷ []) (closed, tt)) of_text are))

-- nothing is a single line
pub empty_single_line : IsSingleLine [] 0
empty_single_line = (
  empty_line_count,
  empty_width,
  first_line [] (record { pieces = []; of_line = record { joins = refl; stand = tt }; closed = record { none_broken = tt; plain = refl }; one_line = refl }),
)

one_element : (lines : List (List ℕ)) → length lines ≡ 1 → lines ≡ get_or lines 0 [] ∷ []
one_element [] is = absurd (omega (arith, is))
one_element (line ∷ []) is = refl
one_element (line ∷ next ∷ lines) is = absurd (omega (arith, is))

-- a single line is all that its text has
pub only_line : (text : List ℕ) (width : ℕ) → IsSingleLine text width → (ps : List Piece) (lines : List (List ℕ)) → ArePiecesOf text ps → AreLinesOf ps lines → lines ≡ text ∷ []
only_line text width single ps lines of_text are =
    one_element lines (length-lines ps lines are ∙ sym (single.0 ps of_text)) ∙ ap (λ (line : List ℕ). line ∷ []) (sym (single.2 ps lines of_text are))

-- ---- rows of as many texts

-- what a row lacks is empty
pub get_or-evened_row : (n : ℕ) (texts : List (List ℕ)) (j : ℕ) → j < n → get_or (evened_row n texts) j [] ≡ get_or texts j []
get_or-evened_row zero texts j below = absurd (omega arith)
get_or-evened_row (suc n) [] j below =
    let all : suc n - 0 ≡ suc n = omega arith in
    ap (λ m. get_or (replicate m (let none : List ℕ = [] in none)) j []) all ∙ get_or-replicate (suc n) j [] [] below
get_or-evened_row (suc n) (text ∷ texts) zero below = refl
get_or-evened_row (suc n) (text ∷ texts) (suc j) below =
    let left : suc n - suc (length texts) ≡ n - length texts = omega arith in
    ap (λ m. get_or (take n texts ++ replicate m []) j []) left ∙ get_or-evened_row n texts j (omega arith)
