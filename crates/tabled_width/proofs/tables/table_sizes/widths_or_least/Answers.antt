use Rattle.std.proofs.Common.{◌≡◌, ◌∙◌, List, None, Ok, ℕ, ap, subst, sym}
use Rattle.std.proofs.lemmas.Result.{err_from_is_err_and}
use Rattle.grid_config.specs.Looks.{look_of}
use Rattle.grid_records.specs.RecordRows.Sources.{columns_of}
use Rattle.grid_records_traits.specs.Sources.{texts_of_rows}
use Rattle.tabled_steps.specs.Outcomes.{MayRefuseStep, all_sized}
use Rattle.tabled_steps.specs.Sizes.{widths_or}
use Rattle.tabled_width.proofs.TablesLemmas.Drawing.{widths_held, widths_refused}
use Rattle.tabled_width.proofs.tables.table_sizes.widths_or_least.Goals as goal

pub returns-in_err-widths : goal.returns-in_err-widths
returns-in_err-widths g c =
    let columns = columns_of c.args.records.now.rows.items in
    let rows = texts_of_rows g.T.Cell.text c.args.records.now.rows.items in
    let none : c.args.sizes.now.widths ≡ None = search in
    let p = err_from_is_err_and c.from_residual-in_err-widths.result c.from_residual-in_err-widths.ensures.1 in
    rw (p.1, p.2) (subst (λ kept. MayRefuseStep c.in_err-widths.field-0.0 (λ outcome. widths_or kept (look_of c.args.cfg.now) columns rows ≡ outcome)) (sym none)
    (widths_refused c.args.cfg.now columns rows c.in_err-widths.field-0.0 c.in_err-widths.ensures.refused))

pub returns : goal.returns
returns g c =
    let columns = columns_of c.args.records.now.rows.items in
    let rows = texts_of_rows g.T.Cell.text c.args.records.now.rows.items in
    let none : c.args.sizes.now.widths ≡ None = search in
    let held = subst (λ (sizes : List ℕ). all_sized sizes ≡ Ok sizes) c.deref.ensures.value c.are_held.ensures in
    ap (λ kept. widths_or kept (look_of c.args.cfg.now) columns rows) none ∙ widths_held c.args.cfg.now columns rows c.in_ok-widths.widths.items c.in_ok-widths.ensures.ok held
