-- The lines so far are written, and the others are left.
use Rattle.std.proofs.Common.{◌≡◌, ◌≤◌, drop, string_bytes, take}
use Rattle.std.specs.List.{join_with_byte}
use Rattle.grid_records_measure.specs.TextLines.{line_feed}
use Rattle.tabled_height.proofs.lines.first_lines.Given as goal

abbrev pub invariant-loop-line : goal.invariant-loop-line
invariant-loop-line l =
    record {
      written : string_bytes l.out ≡ join_with_byte line_feed (take l.taken l.initial.line-iterator.parts);
      left : l.line-iterator.parts ≡ drop l.taken l.initial.line-iterator.parts;
      low : l.taken ≤ l.count;
    }
