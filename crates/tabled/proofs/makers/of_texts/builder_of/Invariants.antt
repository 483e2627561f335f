use Rattle.std.specs.List.{AllZip}
use Rattle.tabled.specs.Making.{HoldsTexts}
use Rattle.tabled.proofs.makers.of_texts.builder_of.Given as goal

abbrev pub invariant-loop-row : goal.invariant-loop-row
invariant-loop-row g l = AllZip (HoldsTexts g.I.Item.IntoIterator.into_iter_gives g.I.Item.IntoIter.Iterator.next_gives g.I.Item.Item.AsStr.text) l.yielded l.builder
