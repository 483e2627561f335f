use Rattle.std.proofs.Common.{ℕ, subst}
use Rattle.grid_config_values.specs.Spans.Spans.{AreGood}
use Rattle.papergrid_picture.specs.Fitting.{FitsAnswer}
use Rattle.papergrid_fits.specs.Tables.{sized_frame}
use Rattle.papergrid_fits.proofs.fitting.fits.Goals as goal

pub returns-clause-answer : goal.returns-clause-answer
returns-clause-answer g c =
    let cfg = c.args.cfg.now in
    let texts = g.R.RecordTexts.rows c.args.records.now in
    let Answers : ℕ → ℕ → Type 0 = λ rows columns.
    FitsAnswer (sized_frame cfg (g.D.Dimension.width c.args.dims.now) (g.D.Dimension.height c.args.dims.now) columns rows) texts (AreGood cfg.spans rows columns) c.fits_counted.result in
    subst (λ rows. Answers rows (g.R.RecordColumns.columns c.args.records.now)) c.count_rows.ensures (subst (λ columns. Answers c.count_rows.result columns) c.count_columns.ensures c.fits_counted.ensures.answer)
