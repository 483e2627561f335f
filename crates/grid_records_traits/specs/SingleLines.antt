-- Rows whose cells are each one line that is its whole text.
use Rattle.std.specs.Prelude.{ℕ, ◌+◌, ◌-◌, ◌<◌, List, [], ◌∷◌, length, slice_index, slice_index_or, slice_range}
use Rattle.std.specs.Str.{IsCharBoundary}
use Rattle.grid_records_traits.specs.Cells.{HasLineCount, HasWidth, IsLineAt}

-- ---- texts that follow one another in a text, separated by one byte each

-- the texts of which the first begins at `start`, and the others at the other places
abbrev pub texts_from : List ℕ → ℕ → List ℕ → List (List ℕ)
texts_from text start [] = []
texts_from text start (next ∷ starts) = slice_range text start (next - 1) ∷ texts_from text next starts

-- the texts that begin at these places, each up to one byte before the next place; at the last place none begins
abbrev pub texts_at : List ℕ → List ℕ → List (List ℕ)
texts_at text [] = []
texts_at text (start ∷ starts) = texts_from text start starts

-- what begins at `start` and ends one byte before `next` is a text
abbrev pub IsTextAt : List ℕ → ℕ → ℕ → Type 0
IsTextAt text start next = (start < next) × IsCharBoundary text start × IsCharBoundary text (next - 1)

-- at each of these places but the last a text begins
abbrev pub AreStarts : List ℕ → List ℕ → Type 0
AreStarts text starts = (i : ℕ) → i + 1 < length starts → IsTextAt text (slice_index starts i) (slice_index starts (i + 1))

-- ---- of one line each

-- the columns of the text with this number: its bytes, where none are given for it
abbrev pub width_of : List (List ℕ) → List ℕ → ℕ → ℕ
width_of texts widths column = slice_index_or widths column (length (slice_index_or texts column []))

-- the text is one line, which is all of it, and takes so many columns
abbrev pub IsSingleLine : List ℕ → ℕ → Type 0
IsSingleLine text width = HasLineCount text 1 × HasWidth text width × IsLineAt text 0 text

-- each text is such a line, and takes its columns
abbrev pub AreSingleLines : List (List ℕ) → List ℕ → Type 0
AreSingleLines texts widths = (column : ℕ) → IsSingleLine (slice_index_or texts column []) (width_of texts widths column)
