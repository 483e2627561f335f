-- The widths of the columns so far.
use Rattle.std.proofs.Common.{◌≡◌, take}
use Rattle.basinmug_columns.specs.Rooms.{needed_rooms}
use Rattle.basinmug_columns.proofs.rooms.needed_rooms.Given as goal

abbrev pub invariant-loop-column : goal.invariant-loop-column
invariant-loop-column l = l.kept.items ≡ needed_rooms l.needs (take l.column l.widths)
