use Rattle.std.proofs.Common.{length, true}
use Rattle.tabled_size_priority.specs.LevelRules.Columns.{from_side}
use Rattle.tabled_size_priority.specs.Laws.Moves.{side-taken}
use Rattle.tabled_size_priority.specs.Laws.Places.{side-placing}
use Rattle.tabled_size_priority.proofs.right.PriorityRight.shrink_counted.Goals as goal

pub returns-clause-shrunk : goal.returns-clause-shrunk
returns-clause-shrunk c =
    let n = length c.args.widths.now in
    side-taken (from_side true n) c.args.least.now c.args.by c.args.widths.now c.take_whole.new.widths c.take_whole.result.last (side-placing true n) c.requires.range c.take_whole.auto.widths c.take_whole.ensures.taken
