-- The test of the start holds of the pieces of the text.
use Rattle.std.proofs.Common.{List, IsTrue}
use Rattle.ansi_scan.specs.Sequences.{Piece}
use Rattle.ansi_scan.specs.Pieces.{pieces}
use Rattle.ansi_str_search.specs.Text.StyledText.{strip}
use Rattle.ansi_str_search.specs.Searches.{BeginsWith}
use Rattle.ansi_str_search.proofs.Searches.{of_pieces, begins_where}
use Rattle.ansi_str_search.proofs.search.starts_with.Goals as goal

pub returns : goal.returns
returns c =
    let p = c.args.pattern.now in
    let found = c.shows_first.result in
    of_pieces (λ (ps : List Piece). (IsTrue found → BeginsWith p (strip ps)) × (BeginsWith p (strip ps) → IsTrue found)) c.args.text.now
    (begins_where p (strip (pieces c.args.text.now)) found c.shows_first.ensures)
