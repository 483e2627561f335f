-- Lines one below the other, of which each takes as many columns.
use Rattle.std.specs.Prelude.{◌≡◌, ◌∷◌, ◌++◌, ℕ, [], All, List, flat_map}
use Rattle.ansi_str.specs.Lines.{IsClosedLine}
use Rattle.ansi_str_search.specs.Text.Characters.{shown_chars}
use Rattle.grid_records_measure.specs.Measures.{line_cost}
use Rattle.grid_records_measure.specs.TextLines.{line_feed}

-- lines, and a line feed after each
abbrev pub ended_lines : List (List ℕ) → List ℕ
ended_lines = flat_map (λ line. line ++ line_feed ∷ [])

-- each is one line, in which no style is open at its end, and the characters that it shows take so many columns
pub record AreEvenLines (columns : ℕ) (lines : List (List ℕ)) : Type 0 where
  pub even : All (λ line. line_cost (shown_chars line) ≡ columns) lines
  pub closed : All IsClosedLine lines
