use Rattle.std.proofs.Common.{refl}
use Rattle.clap.proofs.OnLiterals.{clap_on_literals}
use Rattle.command_line.proofs.basinmug.laws.words_are_at_fault.Goals as goal

pub returns-clause-two_files : goal.returns-clause-two_files
unfolding clap_on_literals
returns-clause-two_files c = refl

pub returns-clause-no_style : goal.returns-clause-no_style
unfolding clap_on_literals
returns-clause-no_style c = refl

pub returns-clause-no_escapes : goal.returns-clause-no_escapes
unfolding clap_on_literals
returns-clause-no_escapes c = refl

pub returns-clause-no_rules : goal.returns-clause-no_rules
unfolding clap_on_literals
returns-clause-no_rules c = refl

pub returns-clause-twice : goal.returns-clause-twice
unfolding clap_on_literals
returns-clause-twice c = refl

pub returns-clause-no_value : goal.returns-clause-no_value
unfolding clap_on_literals
returns-clause-no_value c = refl

pub returns-clause-unknown : goal.returns-clause-unknown
unfolding clap_on_literals
returns-clause-unknown c = refl

pub returns-clause-below_zero : goal.returns-clause-below_zero
unfolding clap_on_literals
returns-clause-below_zero c = refl

pub returns-clause-head_twice : goal.returns-clause-head_twice
unfolding clap_on_literals
returns-clause-head_twice c = refl

pub returns-clause-no_tail : goal.returns-clause-no_tail
unfolding clap_on_literals
returns-clause-no_tail c = refl
