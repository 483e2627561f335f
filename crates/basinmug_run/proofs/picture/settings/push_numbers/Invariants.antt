use Rattle.std.proofs.Common.{◌≡◌, ◌++◌, false}
use Rattle.std.specs.Prelude.{slice_index_or}
use Rattle.std.specs.List.{flat_map, range_with_len}
use Rattle.basinmug_run.specs.Picture.Settings.{right_if}
use Rattle.basinmug_run.proofs.picture.settings.push_numbers.Given as goal

abbrev pub invariant-loop-column : goal.invariant-loop-column
invariant-loop-column l = l.settings.items ≡ l.initial.settings.items ++ flat_map (λ column. right_if (slice_index_or l.numeric column false) column) (range_with_len 0 l.column)
