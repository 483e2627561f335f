use Rattle.std.proofs.Common.{◌≡◌, None, map}
use Rattle.std.specs.List.{find, range_with_len}
use Rattle.papergrid_picture.specs.Fitting.{is_too_wide}
use Rattle.papergrid_picture.specs.Picture.{at}
use Rattle.papergrid_fits.specs.Tables.{sized_frame}
use Rattle.papergrid_fits.proofs.fitting.first_in_row.Given as goal

abbrev pub invariant-loop-column : goal.invariant-loop-column
invariant-loop-column g l =
    find (is_too_wide (sized_frame l.cfg (g.D.Dimension.width l.dims) (g.D.Dimension.height l.dims) l.columns 0) (g.R.RecordTexts.rows l.records)) (map (at l.row) (range_with_len 0 l.column)) ≡ None
