use Rattle.columns_bounded.proofs.Sizes.{over-told, within-told}
use Rattle.columns_bounded.proofs.laws.greatest_sizes_are_kept.Goals as goal

pub returns-clause-within : goal.returns-clause-within
returns-clause-within c = within-told

pub returns-clause-over : goal.returns-clause-over
returns-clause-over c = over-told
