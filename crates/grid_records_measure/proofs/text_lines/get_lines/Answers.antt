-- The parts between the line feeds of a text, which are its lines, as many as it shows.
use Rattle.ansi_scan.specs.Pieces.{pieces}
use Rattle.ansi_scan.proofs.Existence.{ArePiecesOf-pieces}
use Rattle.grid_records_measure.proofs.LinesAndBlocks.{length-lines}
use Rattle.grid_records_measure.proofs.TextLines.{text_lines-one}
use Rattle.grid_records_measure.proofs.text_lines.get_lines.Goals as goal

pub returns-clause-lines : goal.returns-clause-lines
returns-clause-lines c = c.new.ensures.parts

pub returns-clause-count : goal.returns-clause-count
returns-clause-count c = λ ps of_text.
    length-lines ps c.new.result.parts (returns-clause-lines c ps of_text)

pub returns-clause-text : goal.returns-clause-text
returns-clause-text c =
    let text = c.args.text.now in
    text_lines-one text (pieces text) c.new.result.parts (ArePiecesOf-pieces text) (returns-clause-lines c (pieces text) (ArePiecesOf-pieces text))
