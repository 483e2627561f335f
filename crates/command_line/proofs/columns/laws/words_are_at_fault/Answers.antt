use Rattle.std.proofs.Common.{refl}
use Rattle.clap.proofs.OnLiterals.{clap_on_literals}
use Rattle.command_line.proofs.columns.laws.words_are_at_fault.Goals as goal

pub returns-clause-too_wide : goal.returns-clause-too_wide
unfolding clap_on_literals
returns-clause-too_wide c = refl

pub returns-clause-below_zero : goal.returns-clause-below_zero
unfolding clap_on_literals
returns-clause-below_zero c = refl

pub returns-clause-no_style : goal.returns-clause-no_style
unfolding clap_on_literals
returns-clause-no_style c = refl

pub returns-clause-stray : goal.returns-clause-stray
unfolding clap_on_literals
returns-clause-stray c = refl

pub returns-clause-twice : goal.returns-clause-twice
unfolding clap_on_literals
returns-clause-twice c = refl

pub returns-clause-no_value : goal.returns-clause-no_value
unfolding clap_on_literals
returns-clause-no_value c = refl

pub returns-clause-no_colors : goal.returns-clause-no_colors
unfolding clap_on_literals
returns-clause-no_colors c = refl

pub returns-clause-two_lists : goal.returns-clause-two_lists
unfolding clap_on_literals
returns-clause-two_lists c = refl
