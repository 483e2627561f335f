use Rattle.std.proofs.Common.{◌≡◌, None}
use Rattle.std.specs.List.{find}
use Rattle.grid_config_values.specs.Entities.{table_positions}
use Rattle.papergrid_picture.specs.Fitting.{is_too_wide}
use Rattle.papergrid_fits.specs.Tables.{sized_frame}
use Rattle.papergrid_fits.proofs.fitting.first_too_wide.Given as goal

abbrev pub invariant-loop-row : goal.invariant-loop-row
invariant-loop-row g l =
    find (is_too_wide (sized_frame l.cfg (g.D.Dimension.width l.dims) (g.D.Dimension.height l.dims) l.columns 0) (g.R.RecordTexts.rows l.records)) (table_positions l.row l.columns) ≡ None
