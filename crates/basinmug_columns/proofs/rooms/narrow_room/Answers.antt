use Rattle.std.proofs.Common.{◌≡◌, ◌≤◌, ◌∙◌, ap, arith, sum}
use Rattle.basinmug_columns.specs.Rooms.{least_rooms, one_column, two_columns}
use Rattle.basinmug_columns.proofs.Sums.{least-within, sum-below}
use Rattle.basinmug_columns.proofs.rooms.narrow_room.Goals as goal

pub can_give-requires-clause-within : goal.can_give-requires-clause-within
can_give-requires-clause-within c =
    let rooms = least_rooms two_columns c.args.widths.now in
    let same : sum c.deref.result.now ≡ sum rooms = ap sum (c.deref.ensures.value ∙ c.in_ok-two.ensures) in
    let low : sum rooms ≤ sum c.args.widths.now = sum-below c.args.widths.now rooms (least-within two_columns c.args.widths.now) in
    omega (arith, same, low)

pub can_give-requires-2-clause-within : goal.can_give-requires-2-clause-within
can_give-requires-2-clause-within c =
    let rooms = least_rooms one_column c.args.widths.now in
    let same : sum c.deref-2.result.now ≡ sum rooms = ap sum (c.deref-2.ensures.value ∙ c.in_ok-one.ensures) in
    let low : sum rooms ≤ sum c.args.widths.now = sum-below c.args.widths.now rooms (least-within one_column c.args.widths.now) in
    omega (arith, same, low)
