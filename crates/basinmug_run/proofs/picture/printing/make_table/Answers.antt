-- A table that is made, and why it is not.
use Rattle.std.proofs.Common.{inl, inr, subst, sym, List}
use Rattle.basinmug_run.specs.Picture.TableRows.{state_of}
use Rattle.tabled_list.specs.Lists.{AreSetters}
use Rattle.tabled_list.specs.declared.setting.Setting.{Setting}
use Rattle.basinmug_run.specs.Picture.Narrowing.{IsRefusedIn}
use Rattle.basinmug_run.proofs.PictureLemmas.Narrowed.{err-told}
use Rattle.basinmug_run.proofs.PictureLemmas.Tables.{made-by, not-made-by}
use Rattle.basinmug_run.proofs.picture.printing.make_table.Goals as goal

pub run_settings-requires : goal.run_settings-requires
run_settings-requires c = subst AreSetters (sym c.as_slice-list.ensures.value) c.requires

pub returns-in_err-run_settings-clause-refused : goal.returns-in_err-run_settings-clause-refused
returns-in_err-run_settings-clause-refused c =
    let old = state_of c.args.table.now in
    let fault = c.in_err-run_settings.field-0.0 in
    err-told c.from_residual.result fault _ c.from_residual.ensures.1 (inr (inl (subst (λ (it : List Setting). IsRefusedIn it old fault) c.as_slice-list.ensures.value c.in_err-run_settings.ensures.refused)))

pub returns-clause-made : goal.returns-clause-made
returns-clause-made c =
    made-by c.args.options.now c.args.appearance.now.settings.items c.as_slice-list.result.now c.args.appearance.now.needs.items c.as_slice-needs.result.now
    (state_of c.args.table.now) (state_of c.run_settings.new.table)
    c.as_slice-list.ensures.value c.as_slice-needs.ensures.value c.in_ok-run_settings.ensures.run
    (state_of c.narrow_if_asked.new.table) c.narrow_if_asked.result c.narrow_if_asked.ensures.narrowed

pub returns-clause-refused : goal.returns-clause-refused
returns-clause-refused c =
    not-made-by c.args.options.now c.args.appearance.now.settings.items c.as_slice-list.result.now c.args.appearance.now.needs.items c.as_slice-needs.result.now
    (state_of c.args.table.now) (state_of c.run_settings.new.table)
    c.as_slice-list.ensures.value c.as_slice-needs.ensures.value c.in_ok-run_settings.ensures.run
    c.narrow_if_asked.result c.narrow_if_asked.ensures.refused
