-- The lines so far are appended.
use Rattle.std.proofs.Common.{◌≡◌, ◌++◌, map, string_bytes}
use Rattle.std.specs.List.{range_with_len}
use Rattle.basinmug_expanded.specs.Records.{ended_lines, field_line}
use Rattle.basinmug_expanded.proofs.lines.push_field.Given as goal

abbrev pub invariant-loop-number : goal.invariant-loop-number
invariant-loop-number l = string_bytes l.out ≡ string_bytes l.initial.out ++ ended_lines (map (field_line l.columns.names (map string_bytes l.name) (map string_bytes l.lines.items)) (range_with_len 0 l.number))
