-- The settings trim lines, and change no text.
use Rattle.std.proofs.Common.{◌∙◌, subst, sym}
use Rattle.tabled_list.specs.Lists.{AreSetters}
use Rattle.basinmug_run.proofs.PictureLemmas.Setters.{trims_are_setters}
use Rattle.basinmug_run.proofs.picture.narrowing.fit_columns.Goals as goal

pub run_settings-requires : goal.run_settings-requires
run_settings-requires c =
    let fitting = c.args.fitting.now in
    subst AreSetters (sym (c.as_slice-list.ensures.value ∙ c.in_ok-settings.ensures)) (trims_are_setters fitting.truncate fitting.widths.now fitting.rooms.now)
