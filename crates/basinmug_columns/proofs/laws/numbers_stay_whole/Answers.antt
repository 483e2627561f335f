use Rattle.basinmug_columns.proofs.Between.{numbers-whole}
use Rattle.basinmug_columns.proofs.laws.numbers_stay_whole.Goals as goal

pub returns : goal.returns
returns c = numbers-whole
