use Rattle.std.proofs.Common.{rules, arith}
use Rattle.grid_records.proofs.RowsLemmas.KeptLines.{first_bounds, later_bounds, later_start}
use Rattle.grid_records.proofs.rows.records.vec_records.text.kept_lines.line_bounds.Goals as goal

pub returns-then-index-eq0 : goal.returns-then-index-eq0
returns-then-index-eq0 c = first_bounds c.args.text.now c.args.places.now c.requires.places c.args.index c.line_end-end.result c.if-index-eq0.true c.line_end-end.ensures

pub overflow_add-result : goal.overflow_add-result
overflow_add-result c =
    let start = later_start c.args.text.now c.args.places.now c.args.index c.requires.places (omega (arith, c.if-index-eq0.false)) c.requires.within in
    search (rules, start)

pub returns : goal.returns
returns c = later_bounds c.args.text.now c.args.places.now c.requires.places c.args.index c.line_end-end.result (omega (arith, c.if-index-eq0.false)) c.requires.within c.line_end-end.ensures
