use Rattle.std.proofs.Common.{◌≡◌}
use Rattle.std.specs.List.{flat_map, range_with_len}
use Rattle.basinmug_run.specs.Picture.Fitting.{is_narrowed, trimmed_if}
use Rattle.basinmug_run.proofs.picture.narrowing.wrapped_trims.Given as goal

abbrev pub invariant-loop-column : goal.invariant-loop-column
invariant-loop-column l = l.settings.items ≡ flat_map (λ column. trimmed_if (is_narrowed l.widths l.rooms column) column) (range_with_len 0 l.column)
