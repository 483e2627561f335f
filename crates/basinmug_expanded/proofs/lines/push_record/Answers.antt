-- One field more, and all of them after the rule.
use Rattle.std.proofs.Common.{◌≡◌, ◌∙◌, ap, arith, ◌++◌, [], List, ℕ, length, map, string_bytes, slice_index_or, sym}
use Rattle.std.proofs.lemmas.List.{length-map}
use Rattle.std.specs.Prelude.{vec_items}
use Rattle.tabled_text.specs.Rows.{text_rows}
use Rattle.basinmug_expanded.specs.Columns.{columns_view}
use Rattle.basinmug_expanded.specs.Records.{ended_lines, field_lines, rule_line}
use Rattle.basinmug_expanded.proofs.Numbered.{behind-rule, lines-more}
use Rattle.basinmug_expanded.proofs.lines.push_record.Goals as goal

pub loop-field-preserved : goal.loop-field-preserved
loop-field-preserved g c =
    let k = c.loop-field.field in
    let columns = columns_view c.args.columns in
    let names = text_rows c.args.names.now in
    let values = g.T.CellRow.texts c.args.values in
    let old = string_bytes c.loop-field.out in
    lines-more (λ (field : ℕ). field_lines columns (slice_index_or names field []) (slice_index_or values field [])) k _ old _ c.loop-field.invariant
    (c.in_ok-push_field_at.ensures ∙ ap (λ (name : List (List ℕ)). old ++ ended_lines (field_lines columns name (slice_index_or values k []))) c.row_at-name.ensures)

pub returns : goal.returns
returns g c =
    let columns = columns_view c.args.columns in
    let names = text_rows c.args.names.now in
    let values = g.T.CellRow.texts c.args.values in
    let all : c.loop-field.field ≡ length names =
    let counted : c.loop-field.field ≡ length c.args.names.now = omega (arith, c.loop-field.auto.field-end, c.loop-field-test.false) in
    counted ∙ sym (length-map c.args.names.now (λ row. map string_bytes (vec_items row))) in
    behind-rule (λ (field : ℕ). field_lines columns (slice_index_or names field []) (slice_index_or values field [])) c.loop-field.field (length names) (rule_line columns c.args.number) _ _ _ all c.in_ok-push_rule.ensures c.loop-field.invariant
