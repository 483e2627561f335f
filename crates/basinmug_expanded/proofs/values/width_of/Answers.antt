-- The widest line of a text is the widest of the lines that it shows.
use Rattle.ansi_scan.specs.Pieces.{pieces}
use Rattle.ansi_scan.proofs.Existence.{ArePiecesOf-pieces}
use Rattle.grid_records_measure.specs.TextLines.{text_width}
use Rattle.basinmug_expanded.proofs.values.width_of.Goals as goal

pub returns : goal.returns
unfolding text_width
returns g c = let text = g.C.Cell.text c.args.cell.now in c.width.ensures (pieces text) (ArePiecesOf-pieces text)
