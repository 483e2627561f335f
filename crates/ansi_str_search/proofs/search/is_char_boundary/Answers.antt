-- A place is found where a character begins.
use Rattle.std.proofs.Common.{◌≡◌, List, IsTrue}
use Rattle.std.specs.Str.{IsCharBoundary}
use Rattle.ansi_scan.specs.Sequences.{Piece}
use Rattle.ansi_scan.specs.Pieces.{pieces}
use Rattle.ansi_str_search.specs.Text.StyledText.{strip}
use Rattle.ansi_str_search.specs.Parts.{from_place}
use Rattle.ansi_str_search.proofs.Searches.{of_pieces, found_where}
use Rattle.ansi_str_search.proofs.search.is_char_boundary.Goals as goal

pub returns : goal.returns
returns c =
    let text = c.args.text.now in
    let n = c.args.index in
    let found = c.is_some.result in
    of_pieces (λ (ps : List Piece). (IsTrue found → IsCharBoundary (strip ps) n) × (IsCharBoundary (strip ps) n → IsTrue found)) text
    (found_where (IsCharBoundary (strip (pieces text)) n) (λ rest. pieces rest.now ≡ from_place n (pieces text)) c.behind_place.result found c.behind_place.ensures c.is_some.ensures)
