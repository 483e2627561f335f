use Rattle.std.proofs.Common.{◌≡◌}
use Rattle.std.specs.Prelude.{slice_index_or}
use Rattle.std.specs.List.{flat_map, range_with_len}
use Rattle.basinmug_columns.specs.declared.shown.ShownColumn.TheVariants.{LeftOut}
use Rattle.basinmug_run.specs.Columns.{asked_at, value_at, value_in}
use Rattle.basinmug_run.proofs.columns.placed.Given as goal

abbrev pub invariant-loop-place : goal.invariant-loop-place
invariant-loop-place g l = l.asked.items ≡ flat_map (λ place. asked_at place (value_at (value_in l.values) (slice_index_or l.shown place LeftOut))) (range_with_len 0 l.place)
