use Rattle.std.proofs.Common.{refl, ◌∙◌, ap, ◌∷◌, [], ◌++◌}
use Rattle.basinmug_columns.specs.Rooms.{needed_room}
use Rattle.basinmug_columns.proofs.LeastRooms.{next-placed}
use Rattle.basinmug_columns.proofs.rooms.needed_rooms.Goals as goal

pub loop-column-preserved : goal.loop-column-preserved
loop-column-preserved c =
    next-placed (needed_room c.args.needs.now) c.args.widths.now c.loop-column.column _ _ _ c.loop-column-test.true refl c.loop-column.invariant
    (c.in_ok-push.ensures.items ∙ ap (λ room. c.loop-column.kept.items ++ room ∷ []) c.needed_room.ensures)
