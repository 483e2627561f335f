-- The widths of the columns so far.
use Rattle.std.proofs.Common.{◌≡◌, take}
use Rattle.basinmug_columns.specs.Rooms.{least_rooms}
use Rattle.basinmug_columns.proofs.rooms.least_rooms.Given as goal

abbrev pub invariant-loop-width : goal.invariant-loop-width
invariant-loop-width l = l.kept.items ≡ least_rooms l.room (take l.width-index l.widths)
