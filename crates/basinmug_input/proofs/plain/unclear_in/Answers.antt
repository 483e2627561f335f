use Rattle.basinmug_input.proofs.Lanes.{mask-unclear}
use Rattle.basinmug_input.proofs.plain.unclear_in.Goals as goal

pub returns : goal.returns
returns c = mask-unclear c.args.delimiter c.args.lanes c.fits-lanes.0
