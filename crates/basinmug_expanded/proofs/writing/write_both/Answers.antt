-- The first records, the line between, and the last.
use Rattle.std.proofs.Common.{◌∙◌, ◌++◌, [], Err, List, ℕ, append_assoc, drop, subst, sym, take}
use Rattle.tabled_output.specs.Pieces.{HasPassed}
use Rattle.tabled_text.specs.Rows.{text_rows}
use Rattle.basinmug_expanded.specs.Columns.{columns_view, record_number}
use Rattle.basinmug_expanded.specs.Records.{ended_lines, gap_lines, numbered_lines}
use Rattle.basinmug_expanded.specs.Writing.{Writes}
use Rattle.basinmug_expanded.proofs.Both.{first-ones, other-ones, three-parts}
use Rattle.basinmug_expanded.proofs.Parts.{handed-on, nothing-passed, writes-behind}
use Rattle.basinmug_expanded.proofs.writing.write_both.Goals as goal

pub returns-in_err-write_each : goal.returns-in_err-write_each
returns-in_err-write_each g c =
    let columns = columns_view c.args.columns in
    let names = text_rows c.args.names.now in
    let records = g.R.CellRows.rows c.args.records in
    let start = numbered_lines columns names 0 (take c.args.first records) in
    let gap = gap_lines c.args.left_out in
    let rest = numbered_lines columns names (record_number c.args.first c.args.left_out) (drop c.args.first records) in
    let ones = first-ones records _ c.args.first c.between.ensures in
    let writer = c.args.writer.now in
    handed-on g.W.Write.contents (Unit {0}) [] (ended_lines start) (ended_lines gap ++ ended_lines rest) (ended_lines (start ++ (gap ++ rest))) c.from_residual.result c.in_err-write_each.field-0.0 writer writer c.write_each.new.writer
    (three-parts start gap rest) c.from_residual.ensures.1 (nothing-passed g.W.Write.contents writer)
    (subst (λ (rs : List (List (List ℕ))). Writes {A = Unit {0}} g.W.Write.contents (ended_lines (numbered_lines columns names 0 rs)) (Err c.in_err-write_each.field-0.0) writer c.write_each.new.writer) ones c.in_err-write_each.ensures)

pub returns-in_err-write_gap : goal.returns-in_err-write_gap
returns-in_err-write_gap g c =
    let columns = columns_view c.args.columns in
    let names = text_rows c.args.names.now in
    let records = g.R.CellRows.rows c.args.records in
    let start = numbered_lines columns names 0 (take c.args.first records) in
    let gap = gap_lines c.args.left_out in
    let rest = numbered_lines columns names (record_number c.args.first c.args.left_out) (drop c.args.first records) in
    let ones = first-ones records _ c.args.first c.between.ensures in
    let writer = c.args.writer.now in
    handed-on g.W.Write.contents (Unit {0}) (ended_lines start) (ended_lines gap) (ended_lines rest) (ended_lines (start ++ (gap ++ rest))) c.from_residual-in_err-write_gap.result c.in_err-write_gap.field-0.0 writer c.write_each.new.writer c.write_gap.new.writer
    (three-parts start gap rest ∙ sym (append_assoc (ended_lines start) (ended_lines gap) (ended_lines rest))) c.from_residual-in_err-write_gap.ensures.1
    (subst (λ (rs : List (List (List ℕ))). HasPassed g.W.Write.contents (ended_lines (numbered_lines columns names 0 rs)) [] writer c.write_each.new.writer) ones c.in_ok-write_each.ensures) c.in_err-write_gap.ensures

pub returns : goal.returns
returns g c =
    let columns = columns_view c.args.columns in
    let names = text_rows c.args.names.now in
    let records = g.R.CellRows.rows c.args.records in
    let start = numbered_lines columns names 0 (take c.args.first records) in
    let gap = gap_lines c.args.left_out in
    let rest = numbered_lines columns names (record_number c.args.first c.args.left_out) (drop c.args.first records) in
    let ones = first-ones records _ c.args.first c.between.ensures in
    let others = other-ones records _ c.args.first c.len-count.result c.len-count.ensures c.between-last.ensures in
    let writer = c.args.writer.now in
    let last = subst (λ (n : ℕ). Writes g.W.Write.contents (ended_lines (numbered_lines columns names n (drop c.args.first records))) c.write_each-2.result c.write_gap.new.writer c.write_each-2.new.writer) c.record_number-from.ensures
    (subst (λ (rs : List (List (List ℕ))). Writes g.W.Write.contents (ended_lines (numbered_lines columns names c.record_number-from.result rs)) c.write_each-2.result c.write_gap.new.writer c.write_each-2.new.writer) others c.write_each-2.ensures) in
    subst (λ (text : List ℕ). Writes g.W.Write.contents text c.write_each-2.result writer c.write_each-2.new.writer) (sym (three-parts start gap rest))
    (writes-behind g.W.Write.contents (ended_lines start) (ended_lines gap ++ ended_lines rest) c.write_each-2.result writer c.write_each.new.writer c.write_each-2.new.writer
    (subst (λ (rs : List (List (List ℕ))). HasPassed g.W.Write.contents (ended_lines (numbered_lines columns names 0 rs)) [] writer c.write_each.new.writer) ones c.in_ok-write_each.ensures)
    (writes-behind g.W.Write.contents (ended_lines gap) (ended_lines rest) c.write_each-2.result c.write_each.new.writer c.write_gap.new.writer c.write_each-2.new.writer c.in_ok-write_gap.ensures last))
