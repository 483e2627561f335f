use Rattle.std.proofs.Common.{length}
use Rattle.tabled_size_priority.specs.LevelRules.Columns.{from_side}
use Rattle.tabled_size_priority.specs.Shrinking.{shrunk_sum}
use Rattle.tabled_size_priority.specs.Laws.Levels.{level_optimal}
use Rattle.tabled_size_priority.specs.Laws.Raising.{narrowest_optimal}
use Rattle.tabled_size_priority.proofs.laws.priorities_leave_the_best_lists.Goals as goal

pub returns-clause-widest : goal.returns-clause-widest
returns-clause-widest c = λ side after least widths sizes others by most shrunk.
    level_optimal (from_side side (length widths)) least widths (shrunk_sum least widths by) sizes others most shrunk.0

pub returns-clause-narrowest : goal.returns-clause-narrowest
returns-clause-narrowest c = λ side after widths sizes others by fewest some grown. narrowest_optimal side by widths sizes others fewest some grown.0
