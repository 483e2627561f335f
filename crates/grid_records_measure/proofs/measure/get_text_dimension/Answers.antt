-- A line at a time comes off the text.
use Rattle.std.proofs.Common.{rules, ◌≡◌, ◌+◌, ◌≤◌, ◌∙◌, max, length, chars, List, ap, sym, arith}
use Rattle.std.proofs.lemmas.List.Sums.{count_by-le-length}
use Rattle.std.proofs.lemmas.List.Splits.{length-slice_split}
use Rattle.ansi_scan.specs.Sequences.{Piece}
use Rattle.ansi_scan.specs.Pieces.{pieces}
use Rattle.ansi_scan.proofs.Existence.{ArePiecesOf-pieces}
use Rattle.ansi_scan.proofs.Uniqueness.{ArePiecesOf-unique}
use Rattle.ansi_str.specs.StyledText.{strip}
use Rattle.ansi_str_search.proofs.Rests.{strip-fits}
use Rattle.grid_records_measure.specs.Measures.{measure}
use Rattle.grid_records_measure.specs.TextLines.{is_line_feed, shown_lines, widest}
use Rattle.grid_records_measure.specs.RawLines.{lines_behind}
use Rattle.grid_records_measure.proofs.TextLines.{height-of_pieces, width-of_pieces}
use Rattle.grid_records_measure.proofs.measure.get_text_dimension.Goals as goal

pub loop-rest-init : goal.loop-rest-init
loop-rest-init c =
    let line = c.split_line.result.0.now in
    let rest = lines_behind c.split_line.result.1 in
    let count = ap length c.split_line.ensures.lines in
    let first : c.get_line_width-width.result ≡ measure (chars (strip (pieces line))) = c.get_line_width-width.ensures.text in (
      omega (arith, count),
      ap (λ n. max n (widest rest)) first ∙ sym (ap widest c.split_line.ensures.lines),
    )

pub overflow_add-count : goal.overflow_add-count
overflow_add-count c =
    let text = c.args.text.now in
    let shown = strip (pieces text) in
    let left = ap (λ rest. length (lines_behind rest)) c.in-Some.is in
    let more = ap length c.split_line-in-Some.ensures.lines in
    let all = length-slice_split is_line_feed shown in
    let few = count_by-le-length is_line_feed shown in
    let fits : c.loop-rest.count + 1 ≤ length text + 1 = omega (arith, c.loop-rest.invariant.0, left, more, all, few, strip-fits text) in
    search (rules, fits)

pub loop-rest-preserved : goal.loop-rest-preserved
loop-rest-preserved c =
    let line = c.split_line-in-Some.result.0.now in
    let behind = lines_behind c.split_line-in-Some.result.1 in
    let left = ap lines_behind c.in-Some.is ∙ c.split_line-in-Some.ensures.lines in
    let count = ap length left in
    let width = ap widest left in
    let first : c.get_line_width.result ≡ measure (chars (strip (pieces line))) = c.get_line_width.ensures.text in
    let more : max c.max-width.result (widest behind) ≡ max c.loop-rest.width (max (measure (chars (strip (pieces line)))) (widest behind)) =
    omega (arith, first, c.max-width.ensures) in (
      omega (arith, count, c.loop-rest.invariant.0),
      more ∙ ap (λ n. max c.loop-rest.width n) (sym width) ∙ c.loop-rest.invariant.1,
    )

pub returns-clause-lines : goal.returns-clause-lines
returns-clause-lines c = λ ps of_text.
    let text = c.args.text.now in
    let none = ap (λ rest. length (lines_behind rest)) c.in_default.is in
    let all : c.loop-rest.count ≡ length (shown_lines (pieces text)) = omega (arith, none, c.loop-rest.invariant.0) in
    all ∙ ap (λ (of : List Piece). length (shown_lines of)) (ArePiecesOf-unique text (pieces text) ps (ArePiecesOf-pieces text) of_text)

pub returns-clause-width : goal.returns-clause-width
returns-clause-width c = λ ps of_text.
    let text = c.args.text.now in
    let none = ap (λ rest. widest (lines_behind rest)) c.in_default.is in
    let all : c.loop-rest.width ≡ widest (shown_lines (pieces text)) = omega (arith, none, c.loop-rest.invariant.1) in
    all ∙ ap (λ (of : List Piece). widest (shown_lines of)) (ArePiecesOf-unique text (pieces text) ps (ArePiecesOf-pieces text) of_text)

pub returns-clause-height : goal.returns-clause-height
returns-clause-height c = height-of_pieces c.args.text.now c.loop-rest.count (returns-clause-lines c)

pub returns-clause-columns : goal.returns-clause-columns
returns-clause-columns c = width-of_pieces c.args.text.now c.loop-rest.width (returns-clause-width c)
