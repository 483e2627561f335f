use Rattle.std.proofs.Common.{refl, false, ℕ}
use Rattle.std.specs.Prelude.{slice_index_or}
use Rattle.basinmug_run.specs.Picture.Settings.{right_if}
use Rattle.basinmug_run.proofs.PictureLemmas.Mapped.{next_number}
use Rattle.basinmug_run.proofs.picture.settings.push_numbers.Goals as goal

pub loop-column-preserved : goal.loop-column-preserved
loop-column-preserved c =
    next_number (λ (column : ℕ). right_if (slice_index_or c.args.numeric.now column false) column) c.loop-column.column c.args.settings.now.items c.loop-column.settings.items c.push_right_if.new.settings.items _ c.loop-column.invariant c.in_ok-push_right_if.ensures refl
