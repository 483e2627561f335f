-- The rows so far are escaped.
use Rattle.std.proofs.Common.{◌≡◌, map}
use Rattle.tabled_text.specs.Rows.{text_rows}
use Rattle.basinmug_columns.specs.Markdown.Escapes.{in_markdown}
use Rattle.basinmug_columns.proofs.markdown.cells.markdown_cells.Given as goal

abbrev pub invariant-loop-row : goal.invariant-loop-row
invariant-loop-row l = text_rows l.cells.items ≡ map (map in_markdown) (text_rows l.yielded)
