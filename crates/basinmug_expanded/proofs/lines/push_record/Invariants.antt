-- The lines of the fields so far are appended after the rule.
use Rattle.std.proofs.Common.{◌≡◌, ◌++◌, [], slice_index_or, string_bytes}
use Rattle.std.specs.List.{flat_map, range_with_len}
use Rattle.tabled_text.specs.Rows.{text_rows}
use Rattle.basinmug_expanded.specs.Columns.{columns_view}
use Rattle.basinmug_expanded.specs.Records.{ended_lines, field_lines}
use Rattle.basinmug_expanded.proofs.lines.push_record.Given as goal

abbrev pub invariant-loop-field : goal.invariant-loop-field
invariant-loop-field g l =
    string_bytes l.out ≡ string_bytes l.initial.out
    ++ ended_lines (flat_map (λ field. field_lines (columns_view l.columns) (slice_index_or (text_rows l.names) field []) (slice_index_or (g.T.CellRow.texts l.values) field [])) (range_with_len 0 l.field))
