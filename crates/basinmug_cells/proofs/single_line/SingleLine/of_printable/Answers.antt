-- Printable ASCII is its only line, and each byte takes a column.
use Rattle.basinmug_cells.proofs.Lines.{printable-single}
use Rattle.basinmug_cells.proofs.single_line.SingleLine.of_printable.Goals as goal

pub invariant_of-result : goal.invariant_of-result
invariant_of-result c = record { single_line = printable-single c.args.text.now c.requires }
