-- A text that begins with the prefix can be cut after it, and its end is the end of what it shows.
use Rattle.std.proofs.Common.{◌≡◌, ◌∙◌, length, List, arith}
use Rattle.std.specs.Cow.{cow_str_bytes}
use Rattle.ansi_scan.specs.Sequences.{Piece}
use Rattle.ansi_scan.specs.Pieces.{pieces}
use Rattle.ansi_scan.proofs.Existence.{ArePiecesOf-pieces}
use Rattle.ansi_str.specs.StyledText.{strip}
use Rattle.ansi_str.specs.Searches.{BeginsWith}
use Rattle.ansi_str.specs.Keeping.{without_front}
use Rattle.ansi_str_search.proofs.Finds.{IsUtf8-shown}
use Rattle.ansi_str_search.proofs.Rests.{strip-fits}
use Rattle.ansi_str_search.proofs.Searches.{of_pieces, refused_where}
use Rattle.ansi_str.proofs.Keeps.{kept-past}
use Rattle.ansi_str.proofs.Trims.{begins-cut}
use Rattle.ansi_str.proofs.trim.strip_prefix.Goals as goal

pub keep-requires-clause-from : goal.keep-requires-clause-from
keep-requires-clause-from c = λ less.
    let text = c.args.text.now in
    begins-cut c.args.prefix.now (strip (pieces text)) c.utf8.prefix (IsUtf8-shown text c.utf8.text) ((c.starts_with.ensures (pieces text) (ArePiecesOf-pieces text)).0 c.if-not-starts_with.false)

pub keep-requires-clause-to : goal.keep-requires-clause-to
keep-requires-clause-to c = λ less. absurd (omega (arith, less, strip-fits c.args.text.now))

pub returns-clause-kept : goal.returns-clause-kept
returns-clause-kept c =
    let text = c.args.text.now in
    let p = c.args.prefix.now in
    let begins = (c.starts_with.ensures (pieces text) (ArePiecesOf-pieces text)).0 c.if-not-starts_with.false in
    of_pieces (λ (ps : List Piece). BeginsWith p (strip ps) × (cow_str_bytes c.in_ok-keep.field-0 ≡ without_front (length p) ps)) text
    (begins, c.in_ok-keep.ensures.kept ∙ kept-past (length p) (length text) (pieces text) (strip-fits text))

pub returns-in_err-keep-clause-refuses : goal.returns-in_err-keep-clause-refuses
returns-in_err-keep-clause-refuses c =
    let text = c.args.text.now in
    refused_where (of_pieces (λ (ps : List Piece). BeginsWith c.args.prefix.now (strip ps)) text
    ((c.starts_with.ensures (pieces text) (ArePiecesOf-pieces text)).0 c.if-not-starts_with.false)) c.from_residual.result
