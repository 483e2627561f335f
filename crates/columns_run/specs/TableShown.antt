-- What the table of a text shows, in the terms of styled text.
use Rattle.std.specs.Prelude.{◌≡◌, List, ℕ, All, IsUtf8}
use Rattle.ansi_scan.specs.Sequences.{ForPieces, Piece}
use Rattle.ansi_scan.specs.Attributes.{plain_attributes}
use Rattle.ansi_str.specs.StyledText.{styled, IsClosed}
use Rattle.columns_run.specs.Rows.{line_feed}
use Rattle.columns_run.specs.DrawnTables.{picture}
use Rattle.columns_run.specs.Wanted.{Wanted}

-- no ESC is broken, and no style is open where a line ends, nor at the end
pub record LinesEndPlain (pieces : List Piece) : Type 0 where
  pub closed : IsClosed pieces
  pub line_feeds : All (λ x. x.0 ≡ line_feed → x.1 ≡ plain_attributes) (styled pieces)

-- the output shows the table of the input: its picture, the characters that it shows in their styles and in the colours
-- of their columns
pub record ShowsTableOf (wanted : Wanted) (input output : List ℕ) : Type 0 where
  pub text : IsUtf8 output
  pub picture : ForPieces output (λ pieces. styled pieces ≡ picture wanted input)
  pub lines : ForPieces output LinesEndPlain
