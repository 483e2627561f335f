-- The records so far are the first of the text, sound, and kept as is chosen. The next begins here, or there is none.
use Rattle.std.proofs.Common.{◌≡◌, ◌-◌, ◌<◌, ◌≤◌, List, ℕ, [], drop, false, get_or, length, map}
use Rattle.std.specs.List.{AllByRecursion}
use Rattle.std.specs.Str.{IsCharBoundary}
use Rattle.csv.specs.Machine.{next_record}
use Rattle.csv.specs.Reading.{Reached}
use Rattle.csv.specs.declared.parser.State.{State}
use Rattle.csv.specs.declared.parser.State.TheVariants as st
use Rattle.basinmug_input.specs.Reading.{settings}
use Rattle.basinmug_input.specs.Cleaning.{cleaned}
use Rattle.basinmug_input.specs.Flaws.{IsReadableField}
use Rattle.basinmug_input.specs.Kept.{HasKept}
use Rattle.basinmug_input.specs.Parts.{ends_quoted, is_line_end}
use Rattle.basinmug_input.proofs.parts.parted_rows.Given as goal

abbrev pub invariant-loop-at : goal.invariant-loop-at
invariant-loop-at l = record {
  raw : List (List (List ℕ));
  state : State;
  left : List ℕ;
  reached : Reached (settings l.delimiter) st.StartRecord l.text raw state left;
  next : next_record (settings l.delimiter) state [] [] left ≡ next_record (settings l.delimiter) st.StartRecord [] [] (drop l.at l.text);
  quoted : ends_quoted (settings l.delimiter) st.StartRecord l.text ≡ ends_quoted (settings l.delimiter) st.StartRecord (drop l.at l.text);
  sound : AllByRecursion (AllByRecursion (IsReadableField l.escapes)) raw;
  kept : HasKept l.fn.choice l.text (map (map (cleaned l.escapes)) raw) [] l.kept;
  few : length raw ≤ l.at;
  within : l.at ≤ length l.text;
  boundary : IsCharBoundary l.text l.at;
  no_line_end : l.at < length l.text → is_line_end (get_or l.text l.at 0) ≡ false;
}

abbrev pub decreases-loop-at : goal.decreases-loop-at
decreases-loop-at l = length l.text - l.at
