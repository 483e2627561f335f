-- The lines so far, and what those that are left become.
use Rattle.std.proofs.Common.{◌≡◌, ◌++◌, map, string_bytes}
use Rattle.basinmug_columns.proofs.fitting.changing.change_lines.Given as goal

abbrev pub invariant-loop-line : goal.invariant-loop-line
invariant-loop-line g l = map string_bytes l.lines.items ++ map (g.L.LineChange.becomes l.change) l.line-iterator.parts ≡ map (g.L.LineChange.becomes l.change) l.initial.line-iterator.parts
