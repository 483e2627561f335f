use Rattle.std.proofs.Common.{◌≡◌, ◌+◌, ◌≤◌, length, take}
use Rattle.std.specs.List.{suffix_len}
use Rattle.papergrid_cells.proofs.cell_lines.reading.len_without_blank_end.Given as goal

abbrev pub invariant-loop-len : goal.invariant-loop-len
invariant-loop-len l = record {
  within : l.len ≤ length l.lines;
  trimmed : l.len + suffix_len (λ line. line.is_blank) l.lines ≡ length l.lines + suffix_len (λ line. line.is_blank) (take l.len l.lines);
}

abbrev pub decreases-loop-len : goal.decreases-loop-len
decreases-loop-len l = l.len
