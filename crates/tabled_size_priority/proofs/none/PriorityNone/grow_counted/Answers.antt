use Rattle.tabled_size_priority.specs.Laws.Moves.{round-given}
use Rattle.tabled_size_priority.proofs.none.PriorityNone.grow_counted.Goals as goal

pub returns-clause-grown : goal.returns-clause-grown
returns-clause-grown c =
    round-given c.start.result c.args.by c.args.widths.now c.give-moved.new.widths c.give-moved.result.last c.args.self.now c.go_behind.new.self c.start.ensures c.requires c.give-moved.auto.widths c.give-moved.ensures.given c.go_behind.ensures
