use Rattle.std.proofs.Common.{◌≡◌, List, Ok, ℕ, subst}
use Rattle.std.proofs.lemmas.Result.{err_from_is_err_and}
use Rattle.grid_records.specs.RecordRows.Sources.{columns_of}
use Rattle.grid_records_traits.specs.Sources.{texts_of_rows}
use Rattle.tabled_steps.specs.Outcomes.{all_sized}
use Rattle.tabled_width.proofs.TablesLemmas.Drawing.{both_refused, heights_held, widths_held}
use Rattle.tabled_width.proofs.tables.table_sizes.least_sizes.Goals as goal

pub returns-in_err-widths-clause-refused : goal.returns-in_err-widths-clause-refused
returns-in_err-widths-clause-refused g c =
    let columns = columns_of c.args.records.now.rows.items in
    let rows = texts_of_rows g.T.Cell.text c.args.records.now.rows.items in
    let p = err_from_is_err_and c.from_residual.result c.from_residual.ensures.1 in
    rw (p.1, p.2) (λ next. both_refused c.args.cfg.now columns rows c.in_err-widths.field-0.0 c.in_err-widths.ensures.refused next)

pub returns-clause-widths : goal.returns-clause-widths
returns-clause-widths g c =
    let columns = columns_of c.args.records.now.rows.items in
    let rows = texts_of_rows g.T.Cell.text c.args.records.now.rows.items in
    let held = subst (λ (sizes : List ℕ). all_sized sizes ≡ Ok sizes) c.deref.ensures.value c.are_held.ensures in
    widths_held c.args.cfg.now columns rows c.in_ok-widths.widths.items c.in_ok-widths.ensures.widths held

pub returns-clause-heights : goal.returns-clause-heights
returns-clause-heights g c =
    let columns = columns_of c.args.records.now.rows.items in
    let rows = texts_of_rows g.T.Cell.text c.args.records.now.rows.items in
    let held = subst (λ (sizes : List ℕ). all_sized sizes ≡ Ok sizes) c.deref-2.ensures.value c.are_held-2.ensures in
    heights_held c.args.cfg.now columns rows c.in_ok-widths.heights.items c.in_ok-widths.ensures.heights held
