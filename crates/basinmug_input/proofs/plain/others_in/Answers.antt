use Rattle.basinmug_input.proofs.Lanes.{mask-is}
use Rattle.basinmug_input.proofs.plain.others_in.Goals as goal

pub returns : goal.returns
returns c = mask-is c.args.delimiter c.args.lanes c.fits-lanes.0
