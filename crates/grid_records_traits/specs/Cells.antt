-- The lines of a cell's text, and what they measure.
use Rattle.std.specs.Prelude.{◌≡◌, ℕ, List, [], None, Option, Some, length, slice_index_or}
use Rattle.ansi_scan.specs.Sequences.{Piece, ArePiecesOf}
use Rattle.grid_records_measure.specs.TextLines.{AreLinesOf, line_measure, shown_lines, widest}

-- the line with this number, and after the last an empty one
abbrev pub line_at : List (List ℕ) → ℕ → List ℕ
line_at lines index = slice_index_or lines index []

-- the bytes are the line of the text with this number
abbrev pub IsLineAt : List ℕ → ℕ → List ℕ → Type 0
IsLineAt text index bytes =
    (pieces : List Piece) (lines : List (List ℕ)) → ArePiecesOf text pieces → AreLinesOf pieces lines → bytes ≡ line_at lines index

-- the text has `count` lines
abbrev pub HasLineCount : List ℕ → ℕ → Type 0
HasLineCount text count = (pieces : List Piece) → ArePiecesOf text pieces → count ≡ length (shown_lines pieces)

-- its widest line measures `width` columns
abbrev pub HasWidth : List ℕ → ℕ → Type 0
HasWidth text width = (pieces : List Piece) → ArePiecesOf text pieces → width ≡ widest (shown_lines pieces)

-- the line with this number measures `width` columns
abbrev pub HasLineWidth : List ℕ → ℕ → ℕ → Type 0
HasLineWidth text index width = (pieces : List Piece) → ArePiecesOf text pieces → width ≡ line_measure (line_at (shown_lines pieces) index)

-- the text of a cell, and where there is none the empty one
abbrev pub text_or_empty : {C : Type 0} → (C → List ℕ) → Option C → List ℕ
text_or_empty text None = []
text_or_empty text (Some cell) = text cell
