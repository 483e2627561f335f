-- A lemma of `LinesAndBlocks`.
use Rattle.grid_records_measure.proofs.LinesAndBlocks.{lines-shown}
use Rattle.grid_records_measure.proofs.laws.lines_are_shown_lines.Goals as goal

pub returns : goal.returns
returns c = λ text pieces lines whole. lines-shown text pieces lines whole.of_text whole.none_broken
