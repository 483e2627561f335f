use Rattle.std.proofs.Common.{◌≡◌, drop}
use Rattle.papergrid_cells.proofs.cell_lines.reading.pass_lines.Given as goal

abbrev pub invariant-loop : goal.invariant-loop
invariant-loop l = l.lines.parts ≡ drop l.counter l.fn.lines.parts
