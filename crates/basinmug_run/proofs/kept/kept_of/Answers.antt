-- The rows that are kept of all, and how many the others are.
use Rattle.std.proofs.Common.{◌≡◌, ◌∙◌, ◌-◌, ap, ap₂, ℕ, length}
use Rattle.tabled_text.specs.Rows.{longest}
use Rattle.basinmug_columns.specs.declared.rows.RowsShown.{RowsShown}
use Rattle.basinmug_input.specs.Kept.{kept_rows, rows_left_out}
use Rattle.basinmug_run.specs.Kept.{Kept}
use Rattle.basinmug_run.proofs.OfKept.{read-kept}
use Rattle.basinmug_run.proofs.kept.kept_of.Goals as goal

pub returns : goal.returns
returns c =
    let options = c.args.options.now in
    let all = c.args.rows.rows in
    let rows = c.cut_rows-kept.result.rows in
    let columns = c.longest-columns.result in
    let choice = c.choice_of-choice.result in
    let are : rows ≡ kept_rows choice all = c.cut_rows-kept.ensures.rows in
    let out : c.len-count.result - c.len.result ≡ rows_left_out choice all =
    ap₂ (λ (m n : ℕ). m - n) c.len-count.ensures (c.len.ensures ∙ ap length are) in
    let wide : columns ≡ longest all = c.longest-columns.ensures ∙ ap longest c.view.ensures in
    let told : Kept = record { rows = rows; shown = c.shown_by-shown.result; columns = columns } in
    ◌∙◌ {a = told} (ap (λ (shown : RowsShown). record { rows = rows; shown = shown; columns = columns }) c.shown_by-shown.ensures)
    (read-kept options all choice c.choice_of-choice.ensures rows (c.len-count.result - c.len.result) columns are out wide)
