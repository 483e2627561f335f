-- The only line is the text.
use Rattle.std.proofs.Common.{arith}
use Rattle.basinmug_cells.proofs.Lines.{first-line, no-line}
use Rattle.basinmug_cells.proofs.single_line.SingleLine.line.Goals as goal

pub returns-then-index-gt0 : goal.returns-then-index-gt0
returns-then-index-gt0 c =
    let line = c.args.self in
    no-line line.text.now line.width c.args.index c.if-index-gt0.true line.single_line

pub returns : goal.returns
returns c =
    let line = c.args.self in
    first-line line.text.now line.width c.args.index (omega (arith, c.if-index-gt0.false)) line.single_line
