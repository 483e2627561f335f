-- The lines so far are filled.
use Rattle.std.proofs.Common.{◌≡◌, map, string_bytes}
use Rattle.basinmug_expanded.specs.Records.{filled_line}
use Rattle.basinmug_expanded.proofs.names.name_lines.Given as goal

abbrev pub invariant-loop-line : goal.invariant-loop-line
invariant-loop-line l = map string_bytes l.lines.items ≡ map (filled_line l.columns) (map string_bytes l.yielded)
