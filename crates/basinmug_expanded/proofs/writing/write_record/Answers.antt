-- The lines of a record are written, or not all of them.
use Rattle.std.proofs.Common.{◌≡◌, ◌∙◌, ap, subst, ◌++◌, [], List, ℕ, string_bytes}
use Rattle.tabled_output.specs.Pieces.{HasPassed, HasStopped}
use Rattle.tabled_text.specs.Rows.{text_rows}
use Rattle.basinmug_expanded.specs.Columns.{columns_view}
use Rattle.basinmug_expanded.specs.Records.{ended_lines, record_lines}
use Rattle.basinmug_expanded.proofs.Parts.{by-writer, no-memory_first}
use Rattle.basinmug_expanded.proofs.writing.write_record.Goals as goal

pub returns-in_err-push_record-clause-written : goal.returns-in_err-push_record-clause-written
returns-in_err-push_record-clause-written g c =
    no-memory_first g.W.Write.contents (ended_lines (record_lines (columns_view c.args.columns) (text_rows c.args.names.now) c.args.number (g.T.CellRow.texts c.args.values))) c.from_residual.result c.args.writer.now c.from_residual.ensures.1

pub returns-in_err-pass_line-clause-written : goal.returns-in_err-pass_line-clause-written
returns-in_err-pass_line-clause-written g c =
    let lines = ended_lines (record_lines (columns_view c.args.columns) (text_rows c.args.names.now) c.args.number (g.T.CellRow.texts c.args.values)) in
    let made : string_bytes c.push_record.new.out ≡ lines = c.in_ok-push_record.ensures ∙ ap (λ (bytes : List ℕ). bytes ++ lines) c.requires in
    by-writer g.W.Write.contents lines c.from_residual-in_err-pass_line.result c.in_err-pass_line.field-0.0 c.args.writer.now c.pass_line.new.writer c.from_residual-in_err-pass_line.ensures.1
    (subst (λ (text : List ℕ). HasStopped g.W.Write.contents text c.in_err-pass_line.field-0.0 c.args.writer.now c.pass_line.new.writer) made c.in_err-pass_line.ensures.stopped)

pub returns-clause-written : goal.returns-clause-written
returns-clause-written g c =
    let lines = ended_lines (record_lines (columns_view c.args.columns) (text_rows c.args.names.now) c.args.number (g.T.CellRow.texts c.args.values)) in
    let made : string_bytes c.push_record.new.out ≡ lines = c.in_ok-push_record.ensures ∙ ap (λ (bytes : List ℕ). bytes ++ lines) c.requires in
    subst (λ (text : List ℕ). HasPassed g.W.Write.contents text [] c.args.writer.now c.pass_line.new.writer) made
    (subst (λ (rest : List ℕ). HasPassed g.W.Write.contents (string_bytes c.push_record.new.out) rest c.args.writer.now c.pass_line.new.writer) c.in_ok-pass_line.ensures.empty c.in_ok-pass_line.ensures.passed)
