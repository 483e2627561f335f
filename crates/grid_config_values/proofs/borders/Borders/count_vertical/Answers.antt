use Rattle.std.proofs.Common.{sym}
use Rattle.grid_config_values.specs.Glyphs.{has_column_boundary}
use Rattle.grid_config_values.proofs.borders.Borders.count_vertical.Goals as goal

pub returns : goal.returns
returns g c = c.count_boundaries.ensures (has_column_boundary c.args.self.now) (sym c.has_left.ensures) (sym c.has_vertical.ensures) (sym c.has_right.ensures)
