use Rattle.std.proofs.Common.{length}
use Rattle.tabled_size_priority.specs.LevelRules.Columns.{by_width, from_column, from_side}
use Rattle.tabled_size_priority.specs.Shrinking.{shrunk_sum}
use Rattle.tabled_size_priority.specs.Laws.Levels.{level_one}
use Rattle.tabled_size_priority.specs.Laws.Order.{order_one}
use Rattle.tabled_size_priority.specs.Laws.Turns.{turns_one}
use Rattle.tabled_size_priority.proofs.laws.one_shrunk_list.Goals as goal

pub returns : goal.returns
returns c = record {
  side = λ right least by widths. order_one (from_side right (length widths)) least widths (shrunk_sum least widths by);
  narrowest = λ right least by widths. order_one (by_width right widths) least widths (shrunk_sum least widths by);
  widest = λ right least by widths. level_one (from_side right (length widths)) least widths (shrunk_sum least widths by);
  turns = λ start least by widths. turns_one (from_column start (length widths)) least widths (shrunk_sum least widths by);
}
