use Rattle.basinmug_delimiter.proofs.Told.{found-more}
use Rattle.basinmug_delimiter.proofs.laws.first_lines_tell.Goals as goal

pub returns : goal.returns
returns c = found-more
