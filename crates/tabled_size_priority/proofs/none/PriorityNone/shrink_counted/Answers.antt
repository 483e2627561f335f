use Rattle.tabled_size_priority.specs.Laws.Moves.{round-taken}
use Rattle.tabled_size_priority.proofs.none.PriorityNone.shrink_counted.Goals as goal

pub returns-clause-shrunk : goal.returns-clause-shrunk
returns-clause-shrunk c =
    round-taken c.start.result c.args.least.now c.args.by c.args.widths.now c.take-moved.new.widths c.take-moved.result.last c.args.self.now c.go_behind.new.self c.start.ensures c.requires.range c.take-moved.auto.widths c.take-moved.ensures.taken c.go_behind.ensures
