-- A lemma of `LinesAndBlocks`.
use Rattle.grid_records_measure.proofs.LinesAndBlocks.{lines-joined}
use Rattle.grid_records_measure.proofs.laws.closed_lines_join.Goals as goal

pub returns : goal.returns
returns c = lines-joined
