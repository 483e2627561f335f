-- What is left of a text after its first line, byte for byte: the tool by which the measures of its lines are found.
use Rattle.std.specs.Prelude.{◌≡◌, ℕ, List, [], ◌∷◌, ◌++◌, Option, None, Some}
use Rattle.std.specs.Borrow.{Bor}
use Rattle.ansi_scan.specs.Pieces.{pieces}
use Rattle.ansi_scan.specs.Attributes.{Attributes, plain_attributes}
use Rattle.ansi_str.specs.Walking.{Lands}
use Rattle.grid_records_measure.specs.TextLines.{line_feed, shown_lines}

-- this is what is left of the text at the first line feed that it shows, or at its end
abbrev pub IsFromLineFeed : List ℕ → List ℕ → Type 0
IsFromLineFeed text rest = (style : Attributes) × Lands line_feed text plain_attributes rest style

-- the lines that are shown after a line; nothing comes after the last
abbrev pub lines_behind : Option (Bor (List ℕ)) → List (List ℕ)
lines_behind None = []
lines_behind (Some rest) = shown_lines (pieces rest.now)

-- the text is a line, and where something comes after it, a line feed and that
abbrev pub IsLineAndRest : List ℕ → List ℕ → Option (Bor (List ℕ)) → Type 0
IsLineAndRest text line None = text ≡ line
IsLineAndRest text line (Some rest) = text ≡ line ++ line_feed ∷ rest.now
