use Rattle.basinmug_run.proofs.OfKept.{first-kept, missing-kept}
use Rattle.basinmug_run.proofs.laws.the_header_is_shown.Goals as goal

pub returns : goal.returns
returns c = record { first = first-kept; missing = missing-kept }
