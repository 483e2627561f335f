use Rattle.ansi_scan.proofs.Existence.{ArePiecesOf-pieces}
use Rattle.ansi_scan.specs.Pieces.{pieces}
use Rattle.grid_records_measure.specs.TextLines.{text_width}
use Rattle.basinmug_columns.proofs.needs.cell_width.Goals as goal

pub returns : goal.returns
unfolding text_width
returns g c = c.width.ensures (pieces (g.C.Cell.text c.args.cell.now)) (ArePiecesOf-pieces (g.C.Cell.text c.args.cell.now))
