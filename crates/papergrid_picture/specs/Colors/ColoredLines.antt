-- The colours of cells as colours of their lines.
use Rattle.std.specs.Prelude.{Option, None}
use Rattle.grid_config_values.specs.declared.position.Position.{Position}
use Rattle.grid_config.specs.Colors.{Color}
use Rattle.papergrid_picture.specs.Blocks.{Grid}
use Rattle.papergrid_picture.specs.Reading.{Reading, painted}

-- the grid without the colours of its cells' texts
abbrev pub without_text_colors : Grid → Grid
without_text_colors grid = record grid { text_color = λ _. None }

-- the reading in which each line of a cell that has items is in the cell's colour
abbrev pub with_painted_lines : {X : Type 0} → Reading X → (Position → Option Color) → Reading X
with_painted_lines reading colors = record reading { line = λ cell k. painted reading (colors cell) (reading.line cell k) }
