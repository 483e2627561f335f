use Rattle.std.proofs.Common.{◌≡◌, ◌++◌, map, take}
use Rattle.basinmug_cells.specs.Selecting.{selected_place}
use Rattle.basinmug_cells.proofs.choosing.push_selected.Given as goal

abbrev pub invariant-loop-column : goal.invariant-loop-column
invariant-loop-column l = l.chosen.items ≡ l.initial.chosen.items ++ map (selected_place l.row l.mark l.empty) (take l.column-index l.columns)
