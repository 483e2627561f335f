-- The bytes so far are joined, and the machine is in the field.
use Rattle.std.proofs.Common.{List, ℕ, [], drop, ◌≤◌}
use Rattle.csv.specs.declared.parser.State.TheVariants as st
use Rattle.basinmug_input.specs.Parts.{ReadsAs}
use Rattle.basinmug_input.specs.Reading.{settings}
use Rattle.basinmug_input.specs.Walking.{csv_state}
use Rattle.basinmug_input.proofs.JoinedFields.{IsInField}
use Rattle.basinmug_input.proofs.joined.joined_at.Given as goal

abbrev pub invariant-loop-at : goal.invariant-loop-at
invariant-loop-at l = record {
  read : (fields : List (List ℕ)) → ReadsAs (settings l.delimiter) st.StartField fields [] (drop l.start l.bytes) (csv_state l.state) fields l.field.items (drop l.at l.bytes);
  in_field : IsInField (csv_state l.state);
  above : l.start ≤ l.at;
}
