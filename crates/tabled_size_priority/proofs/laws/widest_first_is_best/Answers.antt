use Rattle.std.proofs.Common.{length}
use Rattle.tabled_size_priority.specs.LevelRules.Columns.{from_side}
use Rattle.tabled_size_priority.specs.Shrinking.{shrunk_sum}
use Rattle.tabled_size_priority.specs.Laws.Levels.{level_optimal}
use Rattle.tabled_size_priority.proofs.laws.widest_first_is_best.Goals as goal

pub returns : goal.returns
returns c = λ right least by widths. level_optimal (from_side right (length widths)) least widths (shrunk_sum least widths by)
