-- What is known of a text that is measured. A text is the list of its bytes.
use Rattle.std.specs.Prelude.{◌≡◌, ℕ, Bool, true, List}
use Rattle.grid_records_traits.specs.Cells.{HasLineCount, HasWidth, IsLineAt}

-- a text has so many lines, of which the widest takes so many columns; and is its only line where that is known
pub record IsMeasured (text : List ℕ) (lines width : ℕ) (is_line : Bool) : Type 0 where
  pub are_lines : HasLineCount text lines
  pub is_width : HasWidth text width
  pub whole : is_line ≡ true → (lines ≡ 1) × IsLineAt text 0 text
