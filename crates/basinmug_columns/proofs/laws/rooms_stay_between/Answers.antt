use Rattle.basinmug_columns.proofs.Between.{rooms-count, rooms-kept, rooms-most}
use Rattle.basinmug_columns.proofs.laws.rooms_stay_between.Goals as goal

pub returns : goal.returns
returns c = record { each = rooms-count; kept = rooms-kept; most = rooms-most }
