use Rattle.std.proofs.Common.{◌≡◌, ◌++◌, sym, subst, List, ℕ, [], map, string_bytes}
use Rattle.std.specs.Prelude.{OnOk}
use Rattle.basinmug_columns.proofs.Cells.{get_or-none}
use Rattle.basinmug_expanded.specs.Columns.{columns_view}
use Rattle.basinmug_expanded.specs.Records.{ended_lines, field_lines}
use Rattle.basinmug_expanded.proofs.lines.push_field_at.Goals as goal

pub returns-in-None : goal.returns-in-None
returns-in-None g c =
    subst (λ (value : List ℕ). OnOk c.push_field-in-None.result (string_bytes c.push_field-in-None.new.out ≡ string_bytes c.args.out.now ++ ended_lines (field_lines (columns_view c.args.columns) (map string_bytes c.args.name.now) value)))
    (sym (get_or-none (g.T.CellRow.texts c.args.values) c.args.field [] c.in-None.ensures)) c.push_field-in-None.ensures
