-- The texts before this column are fitted, and the others are as they were.
use Rattle.std.proofs.Common.{◌≡◌, slice_set}
use Rattle.grid_records_traits.specs.Rows.{row_at}
use Rattle.basinmug_run.specs.Picture.Fitting.{fitted_at}
use Rattle.basinmug_run.proofs.PictureLemmas.FittedCells.{changed_front}
use Rattle.basinmug_run.proofs.picture.fitting.fit_row.Given as goal

abbrev pub invariant-loop-column : goal.invariant-loop-column
invariant-loop-column l =
    l.rows.rows ≡ slice_set l.initial.rows.rows l.row (changed_front (fitted_at l.fitting.truncate l.fitting.widths.now l.fitting.rooms.now) 0 l.column (row_at l.initial.rows.rows l.row))
