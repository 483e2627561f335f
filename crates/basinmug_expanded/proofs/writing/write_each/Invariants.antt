-- The records so far are written, and the text is empty.
use Rattle.std.proofs.Common.{◌≡◌, [], slice_index_or, string_bytes}
use Rattle.std.specs.List.{flat_map, range_with_len}
use Rattle.tabled_output.specs.Pieces.{HasPassed}
use Rattle.tabled_text.specs.Rows.{text_rows}
use Rattle.basinmug_expanded.specs.Columns.{columns_view, record_number}
use Rattle.basinmug_expanded.specs.Records.{ended_lines, record_lines}
use Rattle.basinmug_expanded.proofs.writing.write_each.Given as goal

abbrev pub invariant-loop-place : goal.invariant-loop-place
invariant-loop-place g l = record {
  empty : string_bytes l.text ≡ [];
  written : HasPassed g.W.Write.contents
      (ended_lines (flat_map (λ place. record_lines (columns_view l.columns) (text_rows l.names) (record_number l.from place) (slice_index_or (g.R.CellRows.rows l.records) place [])) (range_with_len 0 l.place)))
      [] l.initial.writer l.writer;
}
