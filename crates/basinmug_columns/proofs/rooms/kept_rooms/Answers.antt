use Rattle.std.proofs.Common.{◌≡◌, ◌≤◌, ◌∙◌, ap, arith, sum}
use Rattle.basinmug_columns.specs.Rooms.{needed_rooms}
use Rattle.basinmug_columns.proofs.Sums.{needed-within, sum-below}
use Rattle.basinmug_columns.proofs.rooms.kept_rooms.Goals as goal

pub can_give-requires-clause-within : goal.can_give-requires-clause-within
can_give-requires-clause-within c =
    let rooms = needed_rooms c.args.needs.now c.args.widths.now in
    let same : sum c.deref.result.now ≡ sum rooms = ap sum (c.deref.ensures.value ∙ c.in_ok-needed.ensures) in
    let low : sum rooms ≤ sum c.args.widths.now = sum-below c.args.widths.now rooms (needed-within c.args.needs.now c.args.widths.now) in
    omega (arith, same, low)
