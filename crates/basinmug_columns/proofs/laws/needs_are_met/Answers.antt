use Rattle.basinmug_columns.proofs.Between.{rooms-needed}
use Rattle.basinmug_columns.proofs.laws.needs_are_met.Goals as goal

pub returns : goal.returns
returns c = rooms-needed
