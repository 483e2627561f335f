-- The step of a setter of cells that has no option of its own.
use Rattle.std.specs.Prelude.{◌≡◌, Result, Some}
use Rattle.grid_config_values.specs.declared.entity.Entity.{Entity}
use Rattle.grid_config_values.specs.declared.entity.Entity.TheVariants.{Global as EveryCell}
use Rattle.grid_config_values.specs.declared.fault.Fault.{Fault}
use Rattle.tabled_list.specs.Looks.{with_cell_setting}
use Rattle.tabled_list.specs.Settings.{cell_setter, setting_step}
use Rattle.tabled_list.specs.declared.cells.CellSetting.{CellSetting}
use Rattle.tabled_list.specs.declared.cells.CellSetting.TheVariants.{AlignHorizontal, AlignVertical, Justification, LineAlignment, TrimHorizontal, TrimVertical}
use Rattle.tabled_steps.specs.States.{Settles, State, Steps, looking}

pub setter_steps : {T : Type 0} (at : Entity) (setting : CellSetting) (result : Result T Fault) (old new : State) →
    Steps (Settles (Some EveryCell) (λ state outcome. looking (with_cell_setting setting at) state ≡ outcome)) result old new → Steps (setting_step (cell_setter at setting)) result old new
setter_steps at (AlignHorizontal value) result old new stepped = stepped
setter_steps at (AlignVertical value) result old new stepped = stepped
setter_steps at (LineAlignment on) result old new stepped = stepped
setter_steps at (TrimHorizontal on) result old new stepped = stepped
setter_steps at (TrimVertical on) result old new stepped = stepped
setter_steps at (Justification fill) result old new stepped = stepped
