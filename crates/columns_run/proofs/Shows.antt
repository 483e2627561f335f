-- The characters that a text shows, and the text without its sequences.
use Rattle.std.proofs.Common.{◌≡◌, ℕ, List}
use Rattle.std.specs.Prelude.{chars, IsUtf8}
use Rattle.ansi_scan.specs.Pieces.{pieces}
use Rattle.ansi_scan.proofs.Existence.{ArePiecesOf-pieces}
use Rattle.ansi_str_search.proofs.TextLemmas.Utf8Pieces.{styled-characters}
use Rattle.columns_run.specs.Rows.{stripped}
use Rattle.columns_run.specs.DrawnTables.{characters_of}
use Rattle.columns_run.proofs.Splits.{styled_characters}

pub characters_of-styled : (text : List ℕ) → IsUtf8 text → characters_of (styled_characters text) ≡ chars (stripped text)
characters_of-styled text utf8 = styled-characters text (pieces text) utf8 (ArePiecesOf-pieces text)
