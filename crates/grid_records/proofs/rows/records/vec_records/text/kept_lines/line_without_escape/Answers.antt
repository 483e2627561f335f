-- The line is between its bounds.
use Rattle.std.proofs.Common.{◌≤◌, ◌∙◌, ap, arith, length}
use Rattle.grid_records_measure.specs.TextLines.{line_feed_places}
use Rattle.grid_records.proofs.RowsLemmas.KeptLines.{between_characters, in_order, line_between, no_line}
use Rattle.grid_records.proofs.rows.records.vec_records.text.kept_lines.line_without_escape.Goals as goal

pub returns-then-index-places : goal.returns-then-index-places
returns-then-index-places c =
    let count = ap length c.requires.places in
    no_line c.args.text.now c.args.index c.requires.plain (omega (arith, count, c.if-index-places.true))

pub range-requires-clause-start_le_end : goal.range-requires-clause-start_le_end
range-requires-clause-start_le_end c =
    let within : c.args.index ≤ length (line_feed_places c.args.text.now) = omega (arith, ap length c.requires.places, c.if-index-places.false) in
    (in_order c.args.text.now c.args.index c.line_bounds-start.result within c.line_bounds-start.ensures).0

pub range-requires-clause-start_boundary : goal.range-requires-clause-start_boundary
range-requires-clause-start_boundary c = λ _.
    let within : c.args.index ≤ length (line_feed_places c.args.text.now) = omega (arith, ap length c.requires.places, c.if-index-places.false) in
    (between_characters c.args.text.now c.args.index c.line_bounds-start.result within c.line_bounds-start.ensures c.utf8.text).0

pub range-requires-clause-end_boundary : goal.range-requires-clause-end_boundary
range-requires-clause-end_boundary c =
    let within : c.args.index ≤ length (line_feed_places c.args.text.now) = omega (arith, ap length c.requires.places, c.if-index-places.false) in
    (between_characters c.args.text.now c.args.index c.line_bounds-start.result within c.line_bounds-start.ensures c.utf8.text).1

pub returns : goal.returns
returns c =
    let within : c.args.index ≤ length (line_feed_places c.args.text.now) = omega (arith, ap length c.requires.places, c.if-index-places.false) in
    c.range.ensures.value ∙ line_between c.args.text.now c.args.index c.line_bounds-start.result within c.line_bounds-start.ensures c.requires.plain
