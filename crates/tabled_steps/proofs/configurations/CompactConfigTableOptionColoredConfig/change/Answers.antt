use Rattle.std.proofs.Common.{Ok, ◌∙◌, ap, sym}
use Rattle.grid_config_values.specs.Settings.{value_at}
use Rattle.grid_config.proofs.Looks.{same_look}
use Rattle.grid_config.specs.Compact.{compact_of}
use Rattle.grid_config.specs.Looks.{Look, look_of}
use Rattle.tabled_steps.specs.States.{state_with}
use Rattle.tabled_steps.proofs.configurations.CompactConfigTableOptionColoredConfig.change.Goals as goal

pub returns-clause-step : goal.returns-clause-step
returns-clause-step g c =
    ap (λ (look : Look). Ok (state_with (g.R.RecordTexts.rows c.args.records.now) look (value_at c.args.cfg.now.colors) (g.D.KeptSizes.sizes c.args.dims.now)))
    (sym (ap look_of c.replace.ensures.after ∙ same_look (compact_of c.args.self) c.in_ok-config.config c.in_ok-config.ensures.settings))
