use Rattle.std.proofs.Common.{◌≡◌, ◌+◌, length, sum}
use Rattle.std.specs.Prelude.{IsTrue}
use Rattle.ansi_scan.specs.Attributes.{plain_attributes}
use Rattle.ansi_scan.specs.Sequences.{IsWhole}
use Rattle.columns_run.specs.Ends.{EndsPass}
use Rattle.columns_run.specs.Styled.{KeptEndsWith, gathered_to}
use Rattle.columns_run.proofs.Gathers.{Gathered, parts_in}
use Rattle.columns_run.proofs.Walks.{Walked}
use Rattle.columns_run.proofs.styled_rows.gather_cells.Given as goal

abbrev pub invariant-loop-end : goal.invariant-loop-end
invariant-loop-end l = record {
  walked : Walked l.text l.place.rest.now l.place.style l.end.place.rest.now l.end.place.style l.found.rows.counts (sum l.found.rows.counts) (parts_in (gathered_to l.found l.place.rest.now).text l.found.rows.ends);
  gathered : Gathered (gathered_to l.found l.place.rest.now).text l.found.rows.ends;
  kept : KeptEndsWith l.found l.place.rest.now;
  row : sum l.found.rows.counts + l.found.rows.begun ≡ length l.found.rows.ends;
  whole : IsWhole l.place.rest.now → IsWhole l.text;
  passes : EndsPass l.place.rest.now l.end.place.rest.now l.end.size l.end.printable;
  plain : IsTrue l.begins_plain → l.place.style ≡ plain_attributes;
  closes : IsWhole l.end.place.rest.now → IsWhole l.place.rest.now;
}

abbrev pub decreases-loop-end : goal.decreases-loop-end
decreases-loop-end l = length l.place.rest.now
