-- What cells return of their texts, as functions of the text.
use Rattle.std.proofs.Common.{◌≡◌, ℕ, List}
use Rattle.ansi_scan.specs.Pieces.{pieces}
use Rattle.ansi_scan.proofs.Existence.{ArePiecesOf-pieces}
use Rattle.grid_records_traits.specs.TextLines.{text_height}
use Rattle.grid_records_traits.specs.Cells.{HasLineCount}

pub height_of_text : (text : List ℕ) (count : ℕ) → HasLineCount text count → count ≡ text_height text
unfolding text_height
height_of_text text count has = has (pieces text) (ArePiecesOf-pieces text)
