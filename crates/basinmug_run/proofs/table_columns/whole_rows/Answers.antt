-- Whether no column is left out, where none are chosen.
use Rattle.std.proofs.Common.{◌∙◌, ap, ap₂, sym, ℕ, Bool, [], ◌&&◌, ◌==◌, length}
use Rattle.std.specs.List.{count_by}
use Rattle.basinmug_cells.specs.Views.{view_rows}
use Rattle.basinmug_run.specs.Columns.{columns_of_table, is_of_input, wanted_columns}
use Rattle.basinmug_run.proofs.table_columns.whole_rows.Goals as goal

pub returns-then-not-none-clause-whole : goal.returns-then-not-none-clause-whole
returns-then-not-none-clause-whole c =
    let rows = view_rows c.args.rows in
    ap (λ (none : Bool). none && (count_by is_of_input (columns_of_table c.args.options.now rows []) == length (wanted_columns c.args.options.now rows []))) (sym c.if-not-none.true ∙ c.chooses_none-none.ensures)

pub returns-clause-whole : goal.returns-clause-whole
returns-clause-whole c =
    let options = c.args.options.now in
    let rows = view_rows c.args.rows in
    ap₂ (λ (m n : ℕ). m == n) (c.count-count.ensures ∙ ap (count_by is_of_input) c.in_ok-columns.ensures.shown) c.in_ok-columns.ensures.all
    ∙ ap (λ (none : Bool). none && (count_by is_of_input (columns_of_table options rows []) == length (wanted_columns options rows []))) (sym c.if-not-none.false ∙ c.chooses_none-none.ensures)
