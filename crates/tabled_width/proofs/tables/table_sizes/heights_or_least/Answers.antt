use Rattle.std.proofs.Common.{◌≡◌, ◌∙◌, List, None, Ok, ℕ, ap, subst, sym}
use Rattle.std.proofs.lemmas.Result.{err_from_is_err_and}
use Rattle.grid_config.specs.Looks.{look_of}
use Rattle.grid_records.specs.RecordRows.Sources.{columns_of}
use Rattle.grid_records_traits.specs.Sources.{texts_of_rows}
use Rattle.tabled_steps.specs.Outcomes.{MayRefuseStep, all_sized}
use Rattle.tabled_steps.specs.Sizes.{heights_or}
use Rattle.tabled_width.proofs.TablesLemmas.Drawing.{heights_held, heights_refused}
use Rattle.tabled_width.proofs.tables.table_sizes.heights_or_least.Goals as goal

pub returns-in_err-heights : goal.returns-in_err-heights
returns-in_err-heights g c =
    let columns = columns_of c.args.records.now.rows.items in
    let rows = texts_of_rows g.T.Cell.text c.args.records.now.rows.items in
    let none : c.args.sizes.now.heights ≡ None = search in
    let p = err_from_is_err_and c.from_residual-in_err-heights.result c.from_residual-in_err-heights.ensures.1 in
    rw (p.1, p.2) (subst (λ kept. MayRefuseStep c.in_err-heights.field-0.0 (λ outcome. heights_or kept (look_of c.args.cfg.now) columns rows ≡ outcome)) (sym none)
    (heights_refused c.args.cfg.now columns rows c.in_err-heights.field-0.0 c.in_err-heights.ensures.refused))

pub returns : goal.returns
returns g c =
    let columns = columns_of c.args.records.now.rows.items in
    let rows = texts_of_rows g.T.Cell.text c.args.records.now.rows.items in
    let none : c.args.sizes.now.heights ≡ None = search in
    let held = subst (λ (sizes : List ℕ). all_sized sizes ≡ Ok sizes) c.deref.ensures.value c.are_held.ensures in
    ap (λ kept. heights_or kept (look_of c.args.cfg.now) columns rows) none ∙ heights_held c.args.cfg.now columns rows c.in_ok-heights.heights.items c.in_ok-heights.ensures.ok held
