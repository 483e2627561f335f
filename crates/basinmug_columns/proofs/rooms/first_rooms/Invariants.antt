-- The widths of the columns so far.
use Rattle.std.proofs.Common.{◌≡◌, take}
use Rattle.basinmug_columns.specs.Rooms.{first_rooms}
use Rattle.basinmug_columns.proofs.rooms.first_rooms.Given as goal

abbrev pub invariant-loop-column : goal.invariant-loop-column
invariant-loop-column l = l.first.items ≡ first_rooms l.needs l.kept (take l.column l.widths)
