use Rattle.std.proofs.Common.{sym}
use Rattle.grid_config_values.specs.Glyphs.{has_row_boundary}
use Rattle.grid_config_values.proofs.borders.Borders.count_horizontal.Goals as goal

pub returns : goal.returns
returns g c = c.count_boundaries.ensures (has_row_boundary c.args.self.now) (sym c.has_top.ensures) (sym c.has_horizontal.ensures) (sym c.has_bottom.ensures)
