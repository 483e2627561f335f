use Rattle.basinmug_columns.proofs.Between.{rooms-enough, sum-rooms}
use Rattle.basinmug_columns.proofs.laws.rooms_give_what_is_asked.Goals as goal

pub returns : goal.returns
returns c = record { sum = sum-rooms; all = rooms-enough }
