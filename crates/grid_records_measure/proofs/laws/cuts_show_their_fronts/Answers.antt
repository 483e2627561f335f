-- A lemma of `ShownCuts`.
use Rattle.grid_records_measure.proofs.ShownCuts.{cut-shows}
use Rattle.grid_records_measure.proofs.laws.cuts_show_their_fronts.Goals as goal

pub returns : goal.returns
returns c = λ width text bytes pieces of_cut utf8 whole. cut-shows width text bytes pieces of_cut utf8 whole.of_text whole.none_broken
