use Rattle.std.proofs.Common.{sym, subst}
use Rattle.tabled_list.proofs.CellSetters.{setter_steps}
use Rattle.tabled_list.proofs.setting.Setting.set_cells.Goals as goal
use Rattle.tabled_list.specs.Settings.{setting_step}
use Rattle.tabled_list.specs.declared.setting.Setting.{Setting}
use Rattle.tabled_steps.specs.States.{Steps}

pub returns : goal.returns
returns g c =
    let old = g.S.Adjustable.state c.args.table.now in
    let new = g.S.Adjustable.state c.adjust_cells.new.self in
    subst (λ (setting : Setting). Steps (setting_step setting) c.adjust_cells.result old new) (sym c.cell_setting-at.ensures)
    (setter_steps c.cell_setting-at.result.0 c.cell_setting-at.result.1 c.adjust_cells.result old new c.adjust_cells.ensures)
