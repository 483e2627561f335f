-- The rows before this one are fitted, and the others are as they were.
use Rattle.std.proofs.Common.{◌≡◌}
use Rattle.basinmug_run.specs.Picture.Fitting.{fitted_row}
use Rattle.basinmug_run.proofs.PictureLemmas.FittedCells.{changed_front}
use Rattle.basinmug_run.proofs.picture.fitting.fit_rows.Given as goal

abbrev pub invariant-loop-row : goal.invariant-loop-row
invariant-loop-row l = l.rows.rows ≡ changed_front (λ row texts. fitted_row l.fitting.truncate l.fitting.widths.now l.fitting.rooms.now 0 texts) 0 l.row l.initial.rows.rows
