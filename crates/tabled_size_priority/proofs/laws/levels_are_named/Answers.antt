use Rattle.std.proofs.Common.{length}
use Rattle.tabled_size_priority.specs.LevelRules.Columns.{from_side}
use Rattle.tabled_size_priority.specs.Shrinking.{shrunk_sum}
use Rattle.tabled_size_priority.specs.Laws.Levels.{level_least}
use Rattle.tabled_size_priority.specs.Laws.Raising.{raised_greatest}
use Rattle.tabled_size_priority.proofs.laws.levels_are_named.Goals as goal

pub returns : goal.returns
returns c = record {
  least = λ right least by widths. level_least (from_side right (length widths)) least widths (shrunk_sum least widths by);
  greatest = λ right widths. raised_greatest (from_side right (length widths)) widths;
}
