use Rattle.std.proofs.Common.{refl}
use Rattle.clap.proofs.OnLiterals.{clap_on_literals}
use Rattle.command_line.proofs.basinmug.laws.words_are_taken.Goals as goal

pub returns-clause-nothing : goal.returns-clause-nothing
unfolding clap_on_literals
returns-clause-nothing c = (refl, refl, refl)

pub returns-clause-file : goal.returns-clause-file
unfolding clap_on_literals
returns-clause-file c = (refl, refl, refl)

pub returns-clause-dash : goal.returns-clause-dash
unfolding clap_on_literals
returns-clause-dash c = (refl, refl, refl)

pub returns-clause-behind : goal.returns-clause-behind
unfolding clap_on_literals
returns-clause-behind c = (refl, refl, refl)

pub returns-clause-mixed : goal.returns-clause-mixed
unfolding clap_on_literals
returns-clause-mixed c = (refl, refl, refl)

pub returns-clause-lists : goal.returns-clause-lists
unfolding clap_on_literals
returns-clause-lists c = (refl, refl, refl)

pub returns-clause-found : goal.returns-clause-found
unfolding clap_on_literals
returns-clause-found c = (refl, refl, refl)

pub returns-clause-tab : goal.returns-clause-tab
unfolding clap_on_literals
returns-clause-tab c = (refl, refl, refl)

pub returns-clause-all_columns : goal.returns-clause-all_columns
unfolding clap_on_literals
returns-clause-all_columns c = (refl, refl, refl)

pub returns-clause-head : goal.returns-clause-head
unfolding clap_on_literals
returns-clause-head c = (refl, refl, refl)

pub returns-clause-tail : goal.returns-clause-tail
unfolding clap_on_literals
returns-clause-tail c = (refl, refl, refl)

pub returns-clause-both_ends : goal.returns-clause-both_ends
unfolding clap_on_literals
returns-clause-both_ends c = (refl, refl, refl)
