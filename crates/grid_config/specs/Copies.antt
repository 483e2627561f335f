-- When settings of cells are the same again.
use Rattle.grid_config_values.specs.Settings.{IsUnchanged}
use Rattle.grid_config.specs.declared.cells.CellSettings.{CellSettings}

-- each of the new ones has at every cell what the old one has
pub record HasSameCells (old new : CellSettings) : Type 0 where
  pub padding : IsUnchanged old.padding new.padding
  pub padding_color : IsUnchanged old.padding_color new.padding_color
  pub alignment_horizontal : IsUnchanged old.alignment_horizontal new.alignment_horizontal
  pub alignment_vertical : IsUnchanged old.alignment_vertical new.alignment_vertical
  pub line_alignment : IsUnchanged old.line_alignment new.line_alignment
  pub trim_horizontal : IsUnchanged old.trim_horizontal new.trim_horizontal
  pub trim_vertical : IsUnchanged old.trim_vertical new.trim_vertical
  pub justification : IsUnchanged old.justification new.justification
  pub justification_color : IsUnchanged old.justification_color new.justification_color
