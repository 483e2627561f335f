-- The lines that were taken, and those that are left, are all.
use Rattle.std.proofs.Common.{◌≡◌, ◌++◌, false, map}
use Rattle.std.specs.Cow.{cow_str_bytes}
use Rattle.papergrid_picture.specs.CellLines.{cell_lines}
use Rattle.tabled_pool.proofs.boxes.text.lines_of.Given as goal

abbrev pub invariant-loop-line : goal.invariant-loop-line
invariant-loop-line l = map cow_str_bytes l.lines.items ++ l.line-iterator.parts ≡ cell_lines false false l.text
