-- The fields so far are sound, and the row that isn't ended has them.
use Rattle.std.proofs.Common.{◌-◌, ◌≤◌, length, take}
use Rattle.csv.specs.Records.{fields_of}
use Rattle.basinmug_input.specs.Rows.{HaveShown}
use Rattle.basinmug_input.proofs.records.push_given.Given as goal

abbrev pub invariant-loop-field : goal.invariant-loop-field
invariant-loop-field l = record {
  few : l.number ≤ length (fields_of l.given);
  shown : HaveShown l.escapes (take l.number (fields_of l.given)) l.initial.rows l.rows;
}

abbrev pub decreases-loop-field : goal.decreases-loop-field
decreases-loop-field l = length (fields_of l.given) - l.number
