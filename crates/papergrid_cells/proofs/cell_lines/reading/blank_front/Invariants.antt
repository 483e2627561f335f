use Rattle.std.proofs.Common.{◌≡◌, ◌+◌, drop}
use Rattle.std.specs.List.{prefix_len}
use Rattle.papergrid_cells.proofs.cell_lines.reading.blank_front.Given as goal

abbrev pub invariant-loop-index : goal.invariant-loop-index
invariant-loop-index l = l.index + prefix_len (λ line. line.is_blank) (drop l.index l.lines) ≡ prefix_len (λ line. line.is_blank) l.lines
