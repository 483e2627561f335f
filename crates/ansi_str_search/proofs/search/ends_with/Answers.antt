-- A place is found where the text ends with the pattern.
use Rattle.std.proofs.Common.{◌≡◌, ◌+◌, length, List, IsTrue}
use Rattle.std.specs.Str.{IsCharBoundary}
use Rattle.ansi_scan.specs.Sequences.{Piece}
use Rattle.ansi_scan.specs.Pieces.{pieces}
use Rattle.ansi_str_search.specs.Text.StyledText.{strip}
use Rattle.ansi_str_search.specs.Searches.{EndsWith}
use Rattle.ansi_str_search.proofs.Searches.{of_pieces, found_where}
use Rattle.ansi_str_search.proofs.search.ends_with.Goals as goal

pub returns : goal.returns
returns c =
    let text = c.args.text.now in
    let p = c.args.pattern.now in
    let found = c.is_some.result in
    of_pieces (λ (ps : List Piece). (IsTrue found → EndsWith p (strip ps)) × (EndsWith p (strip ps) → IsTrue found)) text
    (found_where (EndsWith p (strip (pieces text))) (λ n. (n + length p ≡ length (strip (pieces text))) × IsCharBoundary (strip (pieces text)) n) c.find_end.result found c.find_end.ensures c.is_some.ensures)
