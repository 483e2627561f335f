-- Each byte of printable ASCII takes a column.
use Rattle.std.proofs.Common.{subst}
use Rattle.std.specs.Prelude.{slice_range}
use Rattle.grid_records_traits.specs.SingleLines.{IsSingleLine}
use Rattle.basinmug_cells.proofs.Lines.{printable-single}
use Rattle.basinmug_cells.proofs.Parts.{part-length}
use Rattle.basinmug_cells.proofs.rows.Rows.push_printable.Goals as goal

pub push_line-requires-clause-line : goal.push_line-requires-clause-line
push_line-requires-clause-line c =
    let text = c.args.self.now.text in
    let part = slice_range text c.args.start c.args.end in
    subst (IsSingleLine part) (part-length c.args.start c.args.end text c.requires.end.0) (printable-single part c.requires.printable)
