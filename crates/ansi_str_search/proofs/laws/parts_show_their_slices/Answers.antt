-- The lemmas of `Dressed` and `CharSlices`.
use Rattle.ansi_str_search.proofs.Dressed.{styled-split_part, IsClosed-split_part}
use Rattle.ansi_str_search.proofs.CharSlices.{styled-slice}
use Rattle.ansi_str_search.proofs.laws.parts_show_their_slices.Goals as goal

pub returns-clause-shown : goal.returns-clause-shown
returns-clause-shown c = λ text pieces of_part a b ordered whole of_the_part.
    styled-split_part text pieces of_part a b ordered whole.of_text whole.none_broken of_the_part

pub returns-clause-closed : goal.returns-clause-closed
returns-clause-closed c = λ text pieces of_part a b ordered whole of_the_part.
    IsClosed-split_part text pieces of_part a b ordered whole.of_text whole.none_broken of_the_part

pub returns-clause-slice : goal.returns-clause-slice
returns-clause-slice c = λ text pieces of_part a b ordered utf8 whole first last of_the_part.
    styled-slice text pieces of_part a b ordered utf8 whole.of_text whole.none_broken first last of_the_part
