use Rattle.std.proofs.Common.{◌*◌}
use Rattle.basinmug_bounded.proofs.OfCells.{first-cells}
use Rattle.basinmug_bounded.proofs.laws.heads_are_the_first_cells.Goals as goal

pub returns : goal.returns
returns c = λ records all. first-cells (records * all.per_record) all.lengths all.bytes
