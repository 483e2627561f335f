-- The lines that were taken, and those that are left, are all.
use Rattle.std.proofs.Common.{◌≡◌, ◌++◌, map, string_bytes}
use Rattle.grid_records_measure.specs.TextLines.{text_lines}
use Rattle.grid_records.proofs.rows.records.vec_records.text.kept_lines.line_texts.Given as goal

abbrev pub invariant-loop-line : goal.invariant-loop-line
invariant-loop-line l = map string_bytes l.lines.items ++ l.line-iterator.parts ≡ text_lines l.text
