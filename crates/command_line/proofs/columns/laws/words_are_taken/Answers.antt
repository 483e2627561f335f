use Rattle.std.proofs.Common.{refl}
use Rattle.clap.proofs.OnLiterals.{clap_on_literals}
use Rattle.command_line.proofs.columns.laws.words_are_taken.Goals as goal

pub returns-clause-nothing : goal.returns-clause-nothing
unfolding clap_on_literals
returns-clause-nothing c = (refl, refl, refl)

pub returns-clause-narrowed : goal.returns-clause-narrowed
unfolding clap_on_literals
returns-clause-narrowed c = (refl, refl, refl)

pub returns-clause-attached : goal.returns-clause-attached
unfolding clap_on_literals
returns-clause-attached c = (refl, refl, refl)

pub returns-clause-greatest : goal.returns-clause-greatest
unfolding clap_on_literals
returns-clause-greatest c = (refl, refl, refl)

pub returns-clause-streamed : goal.returns-clause-streamed
unfolding clap_on_literals
returns-clause-streamed c = (refl, refl, refl)

pub returns-clause-colored : goal.returns-clause-colored
unfolding clap_on_literals
returns-clause-colored c = (refl, refl, refl)

pub returns-clause-no_list : goal.returns-clause-no_list
unfolding clap_on_literals
returns-clause-no_list c = (refl, refl, refl)
