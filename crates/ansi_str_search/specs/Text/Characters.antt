-- The characters that a text shows.
use Rattle.std.specs.Prelude.{ℕ, List, chars}
use Rattle.ansi_scan.specs.Pieces.{pieces}
use Rattle.ansi_str_search.specs.Text.StyledText.{strip}

-- the characters of the text without its sequences
abbrev pub shown_chars : List ℕ → List ℕ
shown_chars text = chars (strip (pieces text))
