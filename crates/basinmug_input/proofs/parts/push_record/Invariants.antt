-- The fields so far are read, and the row that isn't ended has them.
use Rattle.std.proofs.Common.{◌+◌, ◌-◌, ◌≤◌, List, ℕ, [], drop, length}
use Rattle.std.specs.Str.{IsCharBoundary}
use Rattle.csv.specs.declared.parser.State.TheVariants as st
use Rattle.basinmug_input.specs.Reading.{settings}
use Rattle.basinmug_input.specs.Parts.{ReadsAs}
use Rattle.basinmug_input.specs.Rows.{HaveShown}
use Rattle.basinmug_input.proofs.parts.push_record.Given as goal

abbrev pub invariant-loop-end : goal.invariant-loop-end
invariant-loop-end l = record {
  fields : List (List ℕ);
  read : ReadsAs (settings l.delimiter) st.StartRecord [] [] (drop l.at l.text) st.StartField fields [] (drop l.start l.text);
  shown : HaveShown l.escapes fields l.initial.rows l.rows;
  above : l.at ≤ l.start;
  within : l.start ≤ length l.text;
  boundary : IsCharBoundary l.text l.start;
}

abbrev pub decreases-loop-end : goal.decreases-loop-end
decreases-loop-end l = length l.text + 1 - l.start
