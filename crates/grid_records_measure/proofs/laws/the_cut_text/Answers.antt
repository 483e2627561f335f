-- The cut of a text is one text.
use Rattle.grid_records_measure.proofs.Cuts.{cut_at-meets, cut_at-one}
use Rattle.grid_records_measure.proofs.laws.the_cut_text.Goals as goal

pub returns-clause-meets : goal.returns-clause-meets
returns-clause-meets c = cut_at-meets

pub returns-clause-one : goal.returns-clause-one
returns-clause-one c = cut_at-one
