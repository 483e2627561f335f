-- What was met so far and what is met from here on are all that is met.
use Rattle.std.proofs.Common.{◌≡◌, drop}
use Rattle.basinmug_delimiter.specs.Counting.{HasAtMost}
use Rattle.basinmug_delimiter.specs.States.{state_after}
use Rattle.basinmug_delimiter.specs.Walking.{all_counts, start}
use Rattle.basinmug_delimiter.specs.declared.state.State.TheVariants.{Before}
use Rattle.basinmug_delimiter.proofs.line.read_line.Given as goal

abbrev pub invariant-loop-at : goal.invariant-loop-at
invariant-loop-at l = record {
  counts : all_counts l.quotes l.read (drop l.at l.text) ≡ all_counts l.quotes start l.text;
  state : state_after l.quotes l.read.state (drop l.at l.text) ≡ state_after l.quotes Before l.text;
  few : HasAtMost l.at l.read.counts;
}
