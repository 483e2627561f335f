use Rattle.std.proofs.Common.{Ok, refl, subst}
use Rattle.grid_config.specs.Settings.{Settings}
use Rattle.grid_config_values.specs.Spans.Spans.{ArePositive}
use Rattle.tabled.specs.Printing.{FitsOrFails, IsFitsAnswer}
use Rattle.tabled.specs.Tables.{state_under}
use Rattle.tabled.proofs.Fitting.{fails-told}
use Rattle.tabled.proofs.table_of.TableOf.fits.Goals as goal

pub returns-in_err-fitting_sizes-clause-table : goal.returns-in_err-fitting_sizes-clause-table
returns-in_err-fitting_sizes-clause-table g c =
    subst (λ (settings : Settings). FitsOrFails (state_under g.R.RecordTexts.rows c.args.self.now settings) c.from_residual.result) c.spanned.ensures
    (fails-told (state_under g.R.RecordTexts.rows c.args.self.now c.spanned.result.now) c.from_residual.result c.in_err-fitting_sizes.field-0.0 c.from_residual.ensures.1 c.in_err-fitting_sizes.ensures.table.refused)

pub returns-clause-table : goal.returns-clause-table
returns-clause-table g c = record {
  fits = subst (λ (settings : Settings). IsFitsAnswer (state_under g.R.RecordTexts.rows c.args.self.now settings) (Ok tt)) c.spanned.ensures c.in_ok-fitting_sizes.ensures.table.fits;
  refused = tt;
}

pub returns-in_err-fitting_sizes-clause-settings : goal.returns-in_err-fitting_sizes-clause-settings
returns-in_err-fitting_sizes-clause-settings g c = record {
  settings = c.args.self.now.config.settings;
  look = refl;
  spans = subst (λ (settings : Settings). ArePositive settings.spans) c.spanned.ensures c.in_err-fitting_sizes.ensures.positive;
}

pub returns-clause-settings : goal.returns-clause-settings
returns-clause-settings g c = record {
  settings = c.args.self.now.config.settings;
  look = refl;
  spans = subst (λ (settings : Settings). ArePositive settings.spans) c.spanned.ensures c.in_ok-fitting_sizes.ensures.positive;
}
