-- The delimiters so far.
use Rattle.std.specs.Prelude.{◌≡◌, ◌++◌, codes, string_bytes}
use Rattle.std.specs.List.{flat_map, range_with_len}
use Rattle.basinmug_columns.specs.Markdown.Documents.{column_mark_of}
use Rattle.basinmug_columns.proofs.markdown.delimiters.delimiter_row.Given as goal

abbrev pub invariant-loop-column : goal.invariant-loop-column
invariant-loop-column l = string_bytes l.row ≡ codes "|" ++ flat_map (column_mark_of l.alignments l.widths) (range_with_len 0 l.column)
