-- What the columns so far take.
use Rattle.std.proofs.Common.{◌≡◌, map, take}
use Rattle.basinmug_columns.specs.Shown.{cost_of}
use Rattle.basinmug_columns.proofs.shown.costs_of.Given as goal

abbrev pub invariant-loop-column : goal.invariant-loop-column
invariant-loop-column l = l.costs.items ≡ map (cost_of l.needs l.lined) (take l.column-index l.columns)
