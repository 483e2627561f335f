-- One record more, and all of them.
use Rattle.std.proofs.Common.{◌≡◌, ◌+◌, ◌≤◌, arith, subst, [], List, ℕ, length, slice_index_or}
use Rattle.std.specs.List.{flat_map, range_with_len}
use Rattle.std.specs.Prelude.{Err}
use Rattle.tabled_output.specs.Pieces.{HasPassed}
use Rattle.tabled_text.specs.Rows.{text_rows}
use Rattle.basinmug_expanded.specs.Columns.{columns_view, record_number}
use Rattle.basinmug_expanded.specs.Records.{ended_lines, record_lines}
use Rattle.basinmug_expanded.specs.Writing.{Writes}
use Rattle.basinmug_expanded.proofs.Numbered.{ended-all, ended-next}
use Rattle.basinmug_expanded.proofs.Parts.{handed-on, nothing-passed, passed-behind}
use Rattle.basinmug_expanded.proofs.writing.write_each.Goals as goal

pub loop-place-init : goal.loop-place-init
loop-place-init g c = record { empty = c.new-text.ensures.bytes; written = nothing-passed g.W.Write.contents c.args.writer.now }

pub loop-place-preserved : goal.loop-place-preserved
loop-place-preserved g c =
    let k = c.loop-place.place in
    let columns = columns_view c.args.columns in
    let names = text_rows c.args.names.now in
    let records = g.R.CellRows.rows c.args.records in
    let lines : ℕ → List (List ℕ) = λ place. record_lines columns names (record_number c.args.from place) (slice_index_or records place []) in
    let start = c.args.writer.now in
    let new = c.write_record.new.writer in
    record {
      empty = c.in_ok-write_record.ensures.empty;
      written =
          subst (λ (text : List ℕ). HasPassed g.W.Write.contents text [] start new) (ended-next lines k)
          (passed-behind g.W.Write.contents (ended_lines (flat_map lines (range_with_len 0 k))) (ended_lines (lines k)) start c.loop-place.writer new c.loop-place.invariant.written
          (subst (λ (n : ℕ). HasPassed g.W.Write.contents (ended_lines (record_lines columns names n (slice_index_or records k []))) [] c.loop-place.writer new) c.record_number-number.ensures
          (subst (λ (values : List (List ℕ)). HasPassed g.W.Write.contents (ended_lines (record_lines columns names c.record_number-number.result values)) [] c.loop-place.writer new) c.row-values.ensures c.in_ok-write_record.ensures.written)));
    }

pub returns-in_err-write_record : goal.returns-in_err-write_record
returns-in_err-write_record g c =
    let k = c.loop-place.place in
    let columns = columns_view c.args.columns in
    let names = text_rows c.args.names.now in
    let records = g.R.CellRows.rows c.args.records in
    let lines : ℕ → List (List ℕ) = λ place. record_lines columns names (record_number c.args.from place) (slice_index_or records place []) in
    let all = length records in
    let less : k + 1 ≤ all = omega (arith, c.len-place-end.ensures, c.loop-place-test.true, c.loop-place.auto.place-end) in
    handed-on g.W.Write.contents (Unit {0}) (ended_lines (flat_map lines (range_with_len 0 k))) (ended_lines (lines k)) _ _ c.from_residual.result c.in_err-write_record.field-0.0
    c.args.writer.now c.loop-place.writer c.write_record.new.writer (ended-all lines k all less) c.from_residual.ensures.1 c.loop-place.invariant.written
    (subst (λ (n : ℕ). Writes {A = Unit {0}} g.W.Write.contents (ended_lines (record_lines columns names n (slice_index_or records k []))) (Err c.in_err-write_record.field-0.0) c.loop-place.writer c.write_record.new.writer) c.record_number-number.ensures
    (subst (λ (values : List (List ℕ)). Writes {A = Unit {0}} g.W.Write.contents (ended_lines (record_lines columns names c.record_number-number.result values)) (Err c.in_err-write_record.field-0.0) c.loop-place.writer c.write_record.new.writer)
    c.row-values.ensures c.in_err-write_record.ensures.written))

pub returns : goal.returns
returns g c =
    let columns = columns_view c.args.columns in
    let names = text_rows c.args.names.now in
    let records = g.R.CellRows.rows c.args.records in
    let lines : ℕ → List (List ℕ) = λ place. record_lines columns names (record_number c.args.from place) (slice_index_or records place []) in
    let all : c.loop-place.place ≡ length records = omega (arith, c.len-place-end.ensures, c.loop-place.auto.place-end, c.loop-place-test.false) in
    subst (λ (n : ℕ). HasPassed g.W.Write.contents (ended_lines (flat_map lines (range_with_len 0 n))) [] c.args.writer.now c.loop-place.writer) all c.loop-place.invariant.written
