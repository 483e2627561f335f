-- What holds of a text's lines, as functions of the text.
use Rattle.std.proofs.Common.{◌≡◌, ◌∙◌, ℕ, List, ap, length, refl, sym}
use Rattle.ansi_scan.specs.Pieces.{pieces}
use Rattle.ansi_scan.specs.Sequences.{ArePiecesOf, Piece}
use Rattle.ansi_scan.proofs.Existence.{ArePiecesOf-pieces}
use Rattle.ansi_scan.proofs.Uniqueness.{ArePiecesOf-unique}
use Rattle.grid_records_measure.specs.TextLines.{line_measure, shown_lines, text_height, text_lines, text_width, widest}
use Rattle.grid_records_measure.proofs.TextLines.{length-text_lines, text_lines-are, text_lines-one}
use Rattle.grid_records_traits.specs.Cells.{HasLineCount, HasLineWidth, HasWidth, IsLineAt, line_at}

pub line_of_text : (text bytes : List ℕ) (index : ℕ) → IsLineAt text index bytes → bytes ≡ line_at (text_lines text) index
line_of_text text bytes index is = is (pieces text) (text_lines text) (ArePiecesOf-pieces text) (text_lines-are text)

height_of : (text : List ℕ) → text_height text ≡ length (shown_lines (pieces text))
unfolding text_height
height_of text = refl

pub count_of_text : (text : List ℕ) (count : ℕ) → HasLineCount text count → count ≡ length (text_lines text)
count_of_text text count has = has (pieces text) (ArePiecesOf-pieces text) ∙ sym (length-text_lines text ∙ height_of text)

pub height_of_text : (text : List ℕ) (count : ℕ) → HasLineCount text count → count ≡ text_height text
unfolding text_height
height_of_text text count has = has (pieces text) (ArePiecesOf-pieces text)

pub width_of_text : (text : List ℕ) (width : ℕ) → HasWidth text width → width ≡ text_width text
unfolding text_width
width_of_text text width has = has (pieces text) (ArePiecesOf-pieces text)

pub line_width_of_text : (text : List ℕ) (index width : ℕ) → HasLineWidth text index width → width ≡ line_measure (line_at (shown_lines (pieces text)) index)
line_width_of_text text index width has = has (pieces text) (ArePiecesOf-pieces text)

-- ---- and the relations hold of the functions' values

same_pieces : (text : List ℕ) (ps : List Piece) → ArePiecesOf text ps → pieces text ≡ ps
same_pieces text ps of_text = ArePiecesOf-unique text (pieces text) ps (ArePiecesOf-pieces text) of_text

pub IsLineAt-text_lines : (text : List ℕ) (index : ℕ) → IsLineAt text index (line_at (text_lines text) index)
IsLineAt-text_lines text index = λ ps lines of_text are. ap (λ (ls : List (List ℕ)). line_at ls index) (sym (text_lines-one text ps lines of_text are))

pub HasLineCount-text_lines : (text : List ℕ) → HasLineCount text (length (text_lines text))
HasLineCount-text_lines text = λ ps of_text.
    length-text_lines text ∙ height_of text ∙ ap (λ (qs : List Piece). length (shown_lines qs)) (same_pieces text ps of_text)

pub HasLineCount-text_height : (text : List ℕ) → HasLineCount text (text_height text)
unfolding text_height
HasLineCount-text_height text = λ ps of_text. ap (λ (qs : List Piece). length (shown_lines qs)) (same_pieces text ps of_text)

pub HasWidth-text_width : (text : List ℕ) → HasWidth text (text_width text)
unfolding text_width
HasWidth-text_width text = λ ps of_text. ap (λ (qs : List Piece). widest (shown_lines qs)) (same_pieces text ps of_text)

pub HasLineWidth-measure : (text : List ℕ) (index : ℕ) → HasLineWidth text index (line_measure (line_at (shown_lines (pieces text)) index))
HasLineWidth-measure text index = λ ps of_text. ap (λ (qs : List Piece). line_measure (line_at (shown_lines qs) index)) (same_pieces text ps of_text)
