use Rattle.std.proofs.Common.{◌≡◌, ◌⊎◌, ℕ, List, Err, IfErr, length, ap, sym, subst, ◌∙◌}
use Rattle.std.proofs.lemmas.List.{length-map}
use Rattle.std.specs.Prelude.{map, vec_items}
use Rattle.grid_config_values.specs.declared.fault.Fault.TheVariants.{Memory}
use Rattle.grid_config.specs.Compact.{Compact, compact_of}
use Rattle.grid_records_traits.specs.Rows.{evened}
use Rattle.grid_records_traits.specs.Sources.{texts_of_rows}
use Rattle.papergrid_picture.specs.Fitting.{FitsAnswer}
use Rattle.papergrid.specs.Compact.{IsCompactAnswer, lined}
use Rattle.papergrid.proofs.compact.CompactGrid+R+D+ref+CompactConfig+C.build.Goals as goal

pub returns-clause-fault : goal.returns-clause-fault
returns-clause-fault g c =
    let compact : Compact = compact_of c.self.inside.config.now in
    let width : ℕ → ℕ = g.D.Dimension.width c.self.inside.dimension in
    let all = evened (g.R.RecordColumns.columns c.self.inside.records) (g.R.RecordTexts.rows c.self.inside.records) in
    let Told : ℕ → ℕ → List (List (List ℕ)) → Type 0 = λ columns n rows.
    IfErr c.print_lines.result (λ fault. (fault ≡ Memory) ⊎ FitsAnswer (lined compact width columns n) rows (Unit {0}) (Err fault)) in
    let read : texts_of_rows g.R.Iter.Cell.Cell.text c.in_ok-table.table.rows.items ≡ all = c.in_ok-table.ensures in
    let count : c.len.result ≡ length all = c.len.ensures ∙ c.in_ok-table.table.rows.ok.0 ∙ sym (length-map c.in_ok-table.table.rows.items (λ row. map g.R.Iter.Cell.Cell.text (vec_items row))) ∙ ap length read in
    let of_rows : Told c.count_columns-columns.result c.len.result all = subst (Told c.count_columns-columns.result c.len.result) read c.print_lines.ensures.fault in
    let of_count : Told c.count_columns-columns.result (length all) all = subst (λ n. Told c.count_columns-columns.result n all) count of_rows in
    let of_columns : Told (g.R.RecordColumns.columns c.self.inside.records) (length all) all = subst (λ n. Told n (length all) all) c.count_columns-columns.ensures of_count in
    subst (λ grid. IfErr c.print_lines.result (λ fault. (fault ≡ Memory)
    ⊎ IsCompactAnswer (compact_of grid.settings.now) (g.D.Dimension.width grid.sizes) (g.R.RecordColumns.columns grid.records) (evened (g.R.RecordColumns.columns grid.records) (g.R.RecordTexts.rows grid.records)) (Err fault)))
    c.self.view_is of_columns
