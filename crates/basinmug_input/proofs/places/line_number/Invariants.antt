-- The line feeds so far are counted.
use Rattle.std.proofs.Common.{◌≡◌, ◌+◌, ◌≤◌, take}
use Rattle.std.specs.Prelude.{◌==◌, count_by}
use Rattle.csv.specs.Machine.{line_feed}
use Rattle.basinmug_input.proofs.places.line_number.Given as goal

abbrev pub invariant-loop-i : goal.invariant-loop-i
invariant-loop-i l = record {
  line : l.line ≡ count_by (λ byte. byte == line_feed) (take l.i l.text) + 1;
  few : l.line ≤ l.i + 1;
}
