-- The last sequence of a text, and what comes after it.
use Rattle.std.specs.Prelude.{◌≡◌, ◌+◌, ℕ, false, List, ◌∷◌, ◌++◌, length, take, drop}
use Rattle.ansi_scan.specs.Sequences.{escape}
use Rattle.ansi_scan.specs.Pieces.{leading_piece, pieces}
use Rattle.ansi_str_search.specs.Text.StyledText.{has_escape}

-- the last ESC of the text is there
pub record IsLastEscape (text : List ℕ) (at : ℕ) : Type 0 where
  pub here : text ≡ take at text ++ escape ∷ drop (at + 1) text
  pub before : length (take at text) ≡ at
  pub last : has_escape (drop (at + 1) text) ≡ false

-- the last sequence of the text, or broken ESC, begins there. The pieces before it are those of the text before it, and
-- nothing but text comes after it
pub record IsLastSequence (text : List ℕ) (at : ℕ) : Type 0 where
  pub rest : List ℕ
  pub here : drop at text ≡ escape ∷ rest
  pub parted : pieces text ≡ pieces (take at text) ++ pieces (drop at text)
  pub last : has_escape (drop (leading_piece (drop at text)).1 (drop at text)) ≡ false
