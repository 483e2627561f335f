-- The lines that are shown come off one by one.
use Rattle.std.proofs.Common.{rules, ◌∙◌, ◌∷◌, List, [], ap, sym}
use Rattle.ansi_scan.specs.Sequences.{Piece}
use Rattle.ansi_scan.specs.Pieces.{pieces}
use Rattle.ansi_scan.proofs.Existence.{ArePiecesOf-pieces}
use Rattle.ansi_scan.proofs.Uniqueness.{ArePiecesOf-unique}
use Rattle.grid_records_measure.specs.StyledText.{strip}
use Rattle.grid_records_measure.specs.RawLines.{lines_behind}
use Rattle.grid_records_measure.specs.TextLines.{line_measure, shown_lines}
use Rattle.grid_records_traits.specs.Cells.{line_at}
use Rattle.grid_records_traits.proofs.LineAt.{left_at, left_last, left_next, no_columns}
use Rattle.grid_records_traits.proofs.lines.line_width_of.Goals as goal

pub loop-preserved : goal.loop-preserved
loop-preserved c =
    record {
      text = search rules;
      left = left_next (shown_lines (pieces c.args.text.now)) c.loop.counter _ _ (c.loop.invariant.left ∙ c.split_line.ensures.lines ∙ ap (λ v. strip (pieces c.split_line.result.0.now) ∷ lines_behind v) c.in-Some.is);
    }

pub returns-in-None : goal.returns-in-None
returns-in-None c = λ ps of_text.
    let text = c.args.text.now in
    let same = ArePiecesOf-unique text (pieces text) ps (ArePiecesOf-pieces text) of_text in
    sym no_columns ∙ sym (ap line_measure (left_last (shown_lines (pieces text)) c.loop.counter c.args.index _ []
    (c.loop.invariant.left ∙ c.split_line.ensures.lines ∙ ap (λ v. strip (pieces c.split_line.result.0.now) ∷ lines_behind v) c.in-None.is) c.loop-test.true))
    ∙ ap (λ (of : List Piece). line_measure (line_at (shown_lines of) c.args.index)) same

pub returns : goal.returns
returns c = λ ps of_text.
    let text = c.args.text.now in
    let line = c.split_line-2.result.0.now in
    let same = ArePiecesOf-unique text (pieces text) ps (ArePiecesOf-pieces text) of_text in
    c.get_line_width.ensures.text
    ∙ sym (ap line_measure (left_at (shown_lines (pieces text)) c.loop.counter c.args.index (strip (pieces line)) [] _
    (c.loop.invariant.left ∙ c.split_line-2.ensures.lines) c.loop.auto.counter-end c.loop-test.false))
    ∙ ap (λ (of : List Piece). line_measure (line_at (shown_lines of) c.args.index)) same
