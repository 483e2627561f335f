use Rattle.std.proofs.Common.{arith}
use Rattle.grid_records_estimate.specs.Collecting.{clipped}
use Rattle.grid_records_estimate.proofs.Collects.{map-by_index}
use Rattle.grid_records_estimate.proofs.collector.clip.Goals as goal

pub returns : goal.returns
returns c = map-by_index (clipped c.args.tracks) c.args.needs.now c.loop-need.needs c.loop-need.auto.needs (λ k d below. c.loop-need.invariant.done k d (omega arith))
