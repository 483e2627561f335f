-- A lemma of `LinesAndBlocks`.
use Rattle.grid_records_measure.proofs.LinesAndBlocks.{lines-closed}
use Rattle.grid_records_measure.proofs.laws.lines_are_closed.Goals as goal

pub returns : goal.returns
returns c = λ text pieces lines whole. lines-closed text pieces lines whole.of_text whole.none_broken
