use Rattle.grid_config.specs.Compact.{compact_of}
use Rattle.columns_run.proofs.Plain.{narrow-settings, settings-narrow}
use Rattle.columns_run.proofs.style.style_is_plain.Goals as goal

pub returns : goal.returns
returns c =
    let style = compact_of c.args.style.now in
    ((λ told. narrow-settings style (c.are_settings_narrow.ensures.0 told)), (λ narrow. c.are_settings_narrow.ensures.1 (settings-narrow style narrow)))
