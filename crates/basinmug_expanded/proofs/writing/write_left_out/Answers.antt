-- No memory for the line.
use Rattle.std.specs.Prelude.{codes}
use Rattle.basinmug_columns.specs.Rows.{rows_line}
use Rattle.basinmug_expanded.proofs.Parts.{no-memory_first}
use Rattle.basinmug_expanded.proofs.writing.write_left_out.Goals as goal

pub returns-in_err-line : goal.returns-in_err-line
returns-in_err-line g c = no-memory_first g.W.Write.contents (rows_line (codes "record") c.args.shown) c.from_residual.result c.args.writer.now c.from_residual.ensures.1
