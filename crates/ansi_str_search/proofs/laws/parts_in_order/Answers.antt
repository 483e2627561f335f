-- A lemma of `AllParts`.
use Rattle.ansi_str_search.proofs.AllParts.{bounds-in_order}
use Rattle.ansi_str_search.proofs.laws.parts_in_order.Goals as goal

pub returns : goal.returns
returns c = bounds-in_order
