-- The lines of the names so far.
use Rattle.std.proofs.Common.{◌≡◌, map, string_bytes, take}
use Rattle.tabled_text.specs.Rows.{text_rows}
use Rattle.basinmug_expanded.specs.Records.{name_lines}
use Rattle.basinmug_expanded.proofs.names.lines_of_names.Given as goal

abbrev pub invariant-loop-name : goal.invariant-loop-name
invariant-loop-name l = text_rows l.lines.items ≡ map (name_lines l.columns) (map string_bytes (take l.name-index l.names))
