-- Closed texts and closed lines.
use Rattle.std.specs.Prelude.{◌≡◌, ◌==◌, ℕ, List, false}
use Rattle.std.specs.List.{list_any}
use Rattle.ansi_scan.specs.Sequences.{Piece, ArePiecesOf}
use Rattle.ansi_str_search.specs.Text.StyledText.{IsClosed, strip}

-- no ESC of the text is broken, and no style is open at its end
pub record IsClosedText (text : List ℕ) : Type 0 where
  pub pieces : List Piece
  pub of_text : ArePiecesOf text pieces
  pub closed : IsClosed pieces

-- a closed text that without its sequences has no U+000A LINE FEED
pub record IsClosedLine (line : List ℕ) : Type 0 where
  pub pieces : List Piece
  pub of_line : ArePiecesOf line pieces
  pub closed : IsClosed pieces
  pub one_line : list_any (λ byte. byte == 0x0a) (strip pieces) ≡ false
