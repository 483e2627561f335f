-- A text that ends with the suffix can be cut before it.
use Rattle.std.proofs.Common.{◌≡◌, ◌∙◌, ◌-◌, ap, length, List, arith}
use Rattle.std.specs.Cow.{cow_str_bytes}
use Rattle.std.proofs.lemmas.Str.{IsCharBoundary-start}
use Rattle.ansi_scan.specs.Sequences.{Piece}
use Rattle.ansi_scan.specs.Pieces.{pieces}
use Rattle.ansi_str.specs.StyledText.{strip}
use Rattle.ansi_str.specs.Searches.{EndsWith}
use Rattle.ansi_str.specs.Keeping.{kept, without_end}
use Rattle.ansi_str_search.proofs.Finds.{IsUtf8-shown}
use Rattle.ansi_str_search.proofs.Searches.{of_pieces, refused_where}
use Rattle.ansi_str.proofs.trim.strip_suffix.Goals as goal

pub returns-in_default-clause-kept : goal.returns-in_default-clause-kept
returns-in_default-clause-kept c = of_pieces (λ (ps : List Piece). ¬ (EndsWith c.args.suffix.now (strip ps))) c.args.text.now c.in_default.ensures

pub keep-requires-clause-from : goal.keep-requires-clause-from
keep-requires-clause-from c = λ some. IsCharBoundary-start (strip (pieces c.args.text.now)) (IsUtf8-shown c.args.text.now c.utf8.text)

pub returns-clause-kept : goal.returns-clause-kept
returns-clause-kept c =
    let text = c.args.text.now in
    let p = c.args.suffix.now in
    let sum = c.in-Some.ensures.1.0 in
    let to : c.in-Some.to ≡ length (strip (pieces text)) - length p = omega (arith, sum) in
    of_pieces (λ (ps : List Piece). EndsWith p (strip ps) × (cow_str_bytes c.in_ok-keep.field-0 ≡ without_end (length p) ps)) text
    (c.in-Some.ensures.0, c.in_ok-keep.ensures.kept ∙ ap (λ n. kept 0 n (pieces text)) to)

pub returns-in_err-keep-clause-refuses : goal.returns-in_err-keep-clause-refuses
returns-in_err-keep-clause-refuses c =
    refused_where (of_pieces (λ (ps : List Piece). EndsWith c.args.suffix.now (strip ps)) c.args.text.now c.in-Some.ensures.0) c.from_residual.result
