use Rattle.tabled_size_priority.specs.Laws.Alone.{side_one, widest_one}
use Rattle.tabled_size_priority.specs.Laws.Raising.{narrowest_one}
use Rattle.tabled_size_priority.specs.Laws.Turns.{grown_turns_one}
use Rattle.tabled_size_priority.proofs.laws.one_grown_list.Goals as goal

pub returns : goal.returns
returns c = record { side = side_one; narrowest = narrowest_one; widest = widest_one; turns = grown_turns_one }
