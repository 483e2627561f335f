-- What a cell needs.
use Rattle.std.proofs.Common.{◌≡◌, ℕ, List}
use Rattle.ansi_scan.specs.Pieces.{pieces}
use Rattle.ansi_scan.proofs.Existence.{ArePiecesOf-pieces}
use Rattle.grid_records_traits.specs.TextLines.{text_width}
use Rattle.grid_records_traits.specs.Cells.{HasWidth}

pub text_width-is : (text : List ℕ) (width : ℕ) → HasWidth text width → width ≡ text_width text
unfolding text_width
text_width-is text width h = h (pieces text) (ArePiecesOf-pieces text)
