use Rattle.std.proofs.Common.{◌≡◌, arith}
use Rattle.grid_records_traits.specs.Rows.{text_at}
use Rattle.columns_table.specs.Records.{placed_texts}
use Rattle.columns_table.proofs.PlacedRows.{first-line, no-line, single_line_each}
use Rattle.columns_table.proofs.placed.PlacedRowsPeekableRecords.get_line.Goals as goal

pub returns-then-line-gt0-clause-line : goal.returns-then-line-gt0-clause-line
returns-then-line-gt0-clause-line c =
    let rows = c.args.self.now in
    let one = single_line_each rows.starts.items rows.cells c.args.pos rows.measured in
    no-line (text_at (placed_texts rows.starts.items rows.cells) c.args.pos) one.0 c.args.line (omega (arith, c.if-line-gt0.true)) one.1

pub returns-clause-line : goal.returns-clause-line
returns-clause-line c =
    let rows = c.args.self.now in
    let one = single_line_each rows.starts.items rows.cells c.args.pos rows.measured in
    let first : c.args.line ≡ 0 = omega (arith, c.if-line-gt0.false) in
    first-line (text_at (placed_texts rows.starts.items rows.cells) c.args.pos) c.get_text.result.now one.0 c.args.line first c.get_text.ensures one.1
