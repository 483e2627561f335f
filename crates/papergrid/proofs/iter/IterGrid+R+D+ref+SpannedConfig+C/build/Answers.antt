use Rattle.std.proofs.Common.{◌≡◌, ◌⊎◌, ℕ, List, Err, IfErr, length, ap, sym, subst, ◌∙◌}
use Rattle.std.proofs.lemmas.List.{length-map}
use Rattle.std.specs.Prelude.{map, vec_items}
use Rattle.grid_config_values.specs.Spans.Spans.{AreGood}
use Rattle.grid_config_values.specs.declared.fault.Fault.TheVariants.{Memory}
use Rattle.grid_records_traits.specs.Rows.{evened}
use Rattle.grid_records_traits.specs.Sources.{texts_of_rows}
use Rattle.papergrid_picture.specs.Fitting.{FitsAnswer}
use Rattle.papergrid_fits.specs.Tables.{IsFitsAnswer, sized_frame}
use Rattle.papergrid.proofs.iter.IterGrid+R+D+ref+SpannedConfig+C.build.Goals as goal

pub returns-clause-fault : goal.returns-clause-fault
returns-clause-fault g c =
    let cfg = c.self.inside.config.now in
    let width : ℕ → ℕ = g.D.Dimension.width c.self.inside.dimension in
    let height : ℕ → ℕ = g.D.Dimension.height c.self.inside.dimension in
    let all = evened (g.R.RecordColumns.columns c.self.inside.records) (g.R.RecordTexts.rows c.self.inside.records) in
    let Told : ℕ → ℕ → List (List (List ℕ)) → Type 0 = λ columns n rows.
    IfErr c.print_fitting.result (λ fault. (fault ≡ Memory) ⊎ FitsAnswer (sized_frame cfg width height columns n) rows (AreGood cfg.spans n columns) (Err fault)) in
    let read : texts_of_rows g.R.Iter.Cell.Cell.text c.in_ok-table.table.rows.items ≡ all = c.in_ok-table.ensures in
    let count : c.len.result ≡ length all = c.len.ensures ∙ c.in_ok-table.table.rows.ok.0 ∙ sym (length-map c.in_ok-table.table.rows.items (λ row. map g.R.Iter.Cell.Cell.text (vec_items row))) ∙ ap length read in
    let of_rows : Told c.count_columns-columns.result c.len.result all = subst (Told c.count_columns-columns.result c.len.result) read c.print_fitting.ensures.fault in
    let of_count : Told c.count_columns-columns.result (length all) all = subst (λ n. Told c.count_columns-columns.result n all) count of_rows in
    let of_columns : Told (g.R.RecordColumns.columns c.self.inside.records) (length all) all = subst (λ n. Told n (length all) all) c.count_columns-columns.ensures of_count in
    subst (λ grid. IfErr c.print_fitting.result (λ fault. (fault ≡ Memory)
    ⊎ IsFitsAnswer grid.settings.now (g.D.Dimension.width grid.sizes) (g.D.Dimension.height grid.sizes) (g.R.RecordColumns.columns grid.records) (evened (g.R.RecordColumns.columns grid.records) (g.R.RecordTexts.rows grid.records)) (Err fault)))
    c.self.view_is of_columns
