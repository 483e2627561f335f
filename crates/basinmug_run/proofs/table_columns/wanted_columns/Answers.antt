-- All columns, or those that are chosen.
use Rattle.std.proofs.Common.{◌∙◌, ap, sym, List, ℕ, ◌++◌, Bool, if◌then◌else◌}
use Rattle.basinmug_cells.specs.Views.{view_rows}
use Rattle.basinmug_columns.specs.Shown.{numbered}
use Rattle.basinmug_columns.specs.declared.shown.ShownColumn.{ShownColumn}
use Rattle.tabled_text.specs.Rows.{longest}
use Rattle.basinmug_run.proofs.table_columns.wanted_columns.Goals as goal

abbrev either : List (List (List ℕ)) → List ShownColumn → Bool → List ShownColumn
either rows chosen none = if none then numbered 0 (longest rows) else chosen

pub returns-then-not-none : goal.returns-then-not-none
returns-then-not-none c =
    c.in_ok-columns.ensures.items ∙ ap (either (view_rows c.args.rows) c.args.chosen.now) (sym c.if-not-none.true ∙ c.chooses_none-none.ensures)

pub returns : goal.returns
returns c =
    c.in_ok-push_numbers.ensures ∙ ap (λ (it : List ShownColumn). it ++ numbered 0 c.longest.result) c.new-columns.ensures.items ∙ ap (numbered 0) c.longest.ensures
    ∙ ap (either (view_rows c.args.rows) c.args.chosen.now) (sym c.if-not-none.false ∙ c.chooses_none-none.ensures)
