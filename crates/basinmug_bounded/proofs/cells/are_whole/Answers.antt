use Rattle.basinmug_bounded.proofs.OfCells.{whole-of-some}
use Rattle.basinmug_bounded.proofs.cells.are_whole.Goals as goal

pub returns-else-per_record-eq0 : goal.returns-else-per_record-eq0
returns-else-per_record-eq0 c = whole-of-some c.args.count c.args.per_record
