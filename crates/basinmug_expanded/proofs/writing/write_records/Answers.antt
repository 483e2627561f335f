-- The records, and how many are left out.
use Rattle.std.proofs.Common.{◌≡◌, ◌∙◌, ap, refl, subst, ◌++◌, [], List, ℕ, Err, Vec, map, string_bytes}
use Rattle.std.specs.Prelude.{codes}
use Rattle.std.specs.declared.alloc.Global.{Global}
use Rattle.std.specs.declared.string.String.{String}
use Rattle.tabled_output.specs.Pieces.{HasPassed}
use Rattle.tabled_text.specs.Rows.{text_rows}
use Rattle.basinmug_columns.specs.Rows.{rows_line}
use Rattle.basinmug_expanded.specs.Columns.{Columns, columns_of, columns_view, names_of}
use Rattle.basinmug_expanded.specs.Records.{all_lines, ended_lines, lines_of, name_lines, records_text}
use Rattle.basinmug_expanded.specs.Writing.{Writes}
use Rattle.basinmug_expanded.specs.declared.form.Form.{Form}
use Rattle.basinmug_expanded.proofs.Parts.{handed-on, no-memory_first, nothing-passed, writes-behind}
use Rattle.basinmug_expanded.proofs.writing.write_records.Goals as goal

-- the lines of the names in their columns
same-lines : (form : Form) (header : List (List ℕ)) (records : List (List (List ℕ))) (names : List (List ℕ)) (columns : Columns) (lines : List (List (List ℕ))) → names ≡ names_of form.header header records → columns ≡ columns_of form names records
    → lines ≡ map (name_lines columns.names) names → all_lines columns lines form.rows_shown records ≡ lines_of form header records
same-lines form header records names columns lines named are lined =
    ap (λ (ls : List (List (List ℕ))). all_lines columns ls form.rows_shown records) lined
    ∙ ap (λ (c : Columns). all_lines c (map (name_lines c.names) names) form.rows_shown records) are
    ∙ ap (λ (ns : List (List ℕ)). all_lines (columns_of form ns records) (map (name_lines (columns_of form ns records).names) ns) form.rows_shown records) named

pub returns-in_err-names : goal.returns-in_err-names
returns-in_err-names g c =
    no-memory_first g.W.Write.contents (records_text c.args.form.now (g.H.CellRow.texts c.args.header) (g.R.CellRows.rows c.args.records)) c.from_residual.result c.args.writer.now c.from_residual.ensures.1

pub returns-in_err-columns : goal.returns-in_err-columns
returns-in_err-columns g c =
    no-memory_first g.W.Write.contents (records_text c.args.form.now (g.H.CellRow.texts c.args.header) (g.R.CellRows.rows c.args.records)) c.from_residual-in_err-columns.result c.args.writer.now c.from_residual-in_err-columns.ensures.1

pub returns-in_err-lines : goal.returns-in_err-lines
returns-in_err-lines g c =
    no-memory_first g.W.Write.contents (records_text c.args.form.now (g.H.CellRow.texts c.args.header) (g.R.CellRows.rows c.args.records)) c.from_residual-in_err-lines.result c.args.writer.now c.from_residual-in_err-lines.ensures.1

pub returns-in_err-write_shown : goal.returns-in_err-write_shown
returns-in_err-write_shown g c =
    let form = c.args.form.now in
    let header = g.H.CellRow.texts c.args.header in
    let records = g.R.CellRows.rows c.args.records in
    let names = map string_bytes c.in_ok-names.names.items in
    let columns = columns_view c.in_ok-columns.columns in
    let lines = text_rows c.in_ok-lines.lines.items in
    let are : columns ≡ columns_of form names records = c.in_ok-columns.ensures ∙ ap (λ (ns : List (String Global)). columns_of form (map string_bytes ns) records) c.deref.ensures.value in
    let lined : lines ≡ map (name_lines columns.names) names = c.in_ok-lines.ensures ∙ ap (λ (ns : List (String Global)). map (name_lines columns.names) (map string_bytes ns)) c.deref-2.ensures.value in
    let same : all_lines columns (text_rows c.deref-3.result.now) form.rows_shown records ≡ lines_of form header records =
    ap (λ (ls : List (Vec (String Global) Global)). all_lines columns (text_rows ls) form.rows_shown records) c.deref-3.ensures.value ∙ same-lines form header records names columns lines c.in_ok-names.ensures are lined in
    let part = ended_lines (lines_of form header records) in
    let writer = c.args.writer.now in
    handed-on g.W.Write.contents (Unit {0}) [] part (rows_line (codes "record") form.rows_shown) (part ++ rows_line (codes "record") form.rows_shown) c.from_residual-in_err-write_shown.result c.in_err-write_shown.field-0.0 writer writer c.write_shown.new.writer refl c.from_residual-in_err-write_shown.ensures.1
    (nothing-passed g.W.Write.contents writer)
    (subst (λ (ls : List (List ℕ)). Writes {A = Unit {0}} g.W.Write.contents (ended_lines ls) (Err c.in_err-write_shown.field-0.0) writer c.write_shown.new.writer) same c.in_err-write_shown.ensures)

pub returns : goal.returns
returns g c =
    let form = c.args.form.now in
    let header = g.H.CellRow.texts c.args.header in
    let records = g.R.CellRows.rows c.args.records in
    let names = map string_bytes c.in_ok-names.names.items in
    let columns = columns_view c.in_ok-columns.columns in
    let lines = text_rows c.in_ok-lines.lines.items in
    let are : columns ≡ columns_of form names records = c.in_ok-columns.ensures ∙ ap (λ (ns : List (String Global)). columns_of form (map string_bytes ns) records) c.deref.ensures.value in
    let lined : lines ≡ map (name_lines columns.names) names = c.in_ok-lines.ensures ∙ ap (λ (ns : List (String Global)). map (name_lines columns.names) (map string_bytes ns)) c.deref-2.ensures.value in
    let same : all_lines columns (text_rows c.deref-3.result.now) form.rows_shown records ≡ lines_of form header records =
    ap (λ (ls : List (Vec (String Global) Global)). all_lines columns (text_rows ls) form.rows_shown records) c.deref-3.ensures.value ∙ same-lines form header records names columns lines c.in_ok-names.ensures are lined in
    let part = ended_lines (lines_of form header records) in
    writes-behind g.W.Write.contents part (rows_line (codes "record") form.rows_shown) c.write_left_out.result c.args.writer.now c.write_shown.new.writer c.write_left_out.new.writer
    (subst (λ (ls : List (List ℕ)). HasPassed g.W.Write.contents (ended_lines ls) [] c.args.writer.now c.write_shown.new.writer) same c.in_ok-write_shown.ensures) c.write_left_out.ensures
