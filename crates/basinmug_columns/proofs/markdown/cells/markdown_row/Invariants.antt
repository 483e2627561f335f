-- The texts so far are escaped.
use Rattle.std.proofs.Common.{◌≡◌, map, string_bytes}
use Rattle.basinmug_columns.specs.Markdown.Escapes.{in_markdown}
use Rattle.basinmug_columns.proofs.markdown.cells.markdown_row.Given as goal

abbrev pub invariant-loop-text : goal.invariant-loop-text
invariant-loop-text l = map string_bytes l.out.items ≡ map in_markdown (map string_bytes l.yielded)
