use Rattle.std.proofs.Common.{◌≡◌, ℕ, List, Ok, ap, subst, ◌∙◌}
use Rattle.std.proofs.lemmas.Result.{err_from_is_err_and}
use Rattle.grid_config.specs.Looks.{look_of}
use Rattle.tabled_steps.specs.Outcomes.{all_sized, sized}
use Rattle.tabled_width.specs.WholeTables.Widths.{width_with_columns}
use Rattle.tabled_width.proofs.Percents.{natural-peeked, percent-is, percent-no_product, percent-no_whole, percent-no_widths}
use Rattle.tabled_width.proofs.measures.PercentMeasurementWidth.measure.Goals as goal

pub returns-in_err-widths : goal.returns-in_err-widths
returns-in_err-widths g c =
    let columns = g.R.RecordColumns.columns c.args.records.now in
    let rows = g.R.RecordTexts.rows c.args.records.now in
    let settings = c.args.cfg.now in
    let p = err_from_is_err_and c.from_residual.result c.from_residual.ensures.1 in
    rw (p.1, p.2)
    (percent-no_widths c.args.self.now.0 columns rows (look_of settings) _ (natural-peeked settings columns _ rows _ c.new.ensures.rows c.new.ensures.columns) c.in_err-widths.field-0.0 c.in_err-widths.ensures.refused)

pub returns-in_err-whole : goal.returns-in_err-whole
returns-in_err-whole g c =
    let columns = g.R.RecordColumns.columns c.args.records.now in
    let rows = g.R.RecordTexts.rows c.args.records.now in
    let settings = c.args.cfg.now in
    let look = look_of settings in
    let widths = c.in_ok-widths.widths.items in
    let p = err_from_is_err_and c.from_residual-in_err-whole.result c.from_residual-in_err-whole.ensures.1 in
    let are = c.in_ok-widths.ensures.ok ∙ natural-peeked settings columns _ rows _ c.new.ensures.rows c.new.ensures.columns in
    let fit = subst (λ (ws : List ℕ). all_sized ws ≡ Ok ws) c.deref.ensures.value c.width_with_columns.ensures.held in
    rw (p.1, p.2)
    (percent-no_whole c.args.self.now.0 columns rows look widths are fit c.in_err-whole.field-0.0
    (c.in_err-whole.ensures.whole ∙ ap (λ (ws : List ℕ). sized (width_with_columns look ws)) c.deref.ensures.value))

pub returns-in_err-product : goal.returns-in_err-product
returns-in_err-product g c =
    let columns = g.R.RecordColumns.columns c.args.records.now in
    let rows = g.R.RecordTexts.rows c.args.records.now in
    let settings = c.args.cfg.now in
    let look = look_of settings in
    let widths = c.in_ok-widths.widths.items in
    let p = err_from_is_err_and c.from_residual-in_err-product.result c.from_residual-in_err-product.ensures.1 in
    let are = c.in_ok-widths.ensures.ok ∙ natural-peeked settings columns _ rows _ c.new.ensures.rows c.new.ensures.columns in
    let fit = subst (λ (ws : List ℕ). all_sized ws ≡ Ok ws) c.deref.ensures.value c.width_with_columns.ensures.held in
    rw (p.1, p.2)
    (percent-no_product c.args.self.now.0 columns rows look widths are fit c.in_ok-whole.whole
    (c.in_ok-whole.ensures.whole ∙ ap (λ (ws : List ℕ). sized (width_with_columns look ws)) c.deref.ensures.value) c.in_err-product.field-0.0 c.in_err-product.ensures)

pub returns : goal.returns
returns g c =
    let columns = g.R.RecordColumns.columns c.args.records.now in
    let rows = g.R.RecordTexts.rows c.args.records.now in
    let settings = c.args.cfg.now in
    let look = look_of settings in
    let widths = c.in_ok-widths.widths.items in
    let are = c.in_ok-widths.ensures.ok ∙ natural-peeked settings columns _ rows _ c.new.ensures.rows c.new.ensures.columns in
    let fit = subst (λ (ws : List ℕ). all_sized ws ≡ Ok ws) c.deref.ensures.value c.width_with_columns.ensures.held in
    percent-is c.args.self.now.0 columns rows look widths are fit c.in_ok-whole.whole
    (c.in_ok-whole.ensures.whole ∙ ap (λ (ws : List ℕ). sized (width_with_columns look ws)) c.deref.ensures.value) c.in_ok-product.product c.in_ok-product.ensures
