-- The names so far.
use Rattle.std.proofs.Common.{◌≡◌, map, string_bytes}
use Rattle.std.specs.List.{range_with_len}
use Rattle.basinmug_expanded.specs.Columns.{name_of}
use Rattle.basinmug_expanded.proofs.names.names_of.Given as goal

abbrev pub invariant-loop-field : goal.invariant-loop-field
invariant-loop-field g l = map string_bytes l.names.items ≡ map (name_of l.has_header (g.H.CellRow.texts l.header)) (range_with_len 0 l.field)
