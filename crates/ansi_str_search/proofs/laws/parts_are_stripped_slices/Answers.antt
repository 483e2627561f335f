-- The lemmas of `Slices` and `AllParts`.
use Rattle.ansi_str_search.proofs.Slices.{strip-split_part}
use Rattle.ansi_str_search.proofs.AllParts.{strip-styled_parts}
use Rattle.ansi_str_search.proofs.laws.parts_are_stripped_slices.Goals as goal

pub returns-clause-one : goal.returns-clause-one
returns-clause-one c = λ text pieces of_part a b ordered whole of_the_part. strip-split_part text pieces of_part a b ordered whole.of_text whole.none_broken of_the_part

pub returns-clause-all : goal.returns-clause-all
returns-clause-all c = λ pattern text pieces matches whole are. strip-styled_parts pattern text pieces matches whole.of_text whole.none_broken are
