use Rattle.std.proofs.Common.{◌≡◌, ◌≤◌, map, sum, take}
use Rattle.std.specs.List.{range_with_len}
use Rattle.tabled_size_priority.specs.Shrinking.{gap_of}
use Rattle.tabled_size_priority.proofs.peaker.room.Given as goal

abbrev pub invariant-loop-column : goal.invariant-loop-column
invariant-loop-column l = record {
  is_room : l.room ≡ sum (map (gap_of l.least l.widths) (range_with_len 0 l.column));
  fits : l.room ≤ sum (take l.column l.widths);
}
