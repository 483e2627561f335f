-- A lemma of `Styles`.
use Rattle.ansi_str_search.proofs.Styles.{split_part-slice}
use Rattle.ansi_str_search.proofs.laws.parts_are_slices.Goals as goal

pub returns : goal.returns
returns c = split_part-slice
