-- A lemma of `WholeCuts`.
use Rattle.ansi_str.proofs.WholeCuts.{sides-show}
use Rattle.ansi_str.proofs.laws.sides_show_the_text.Goals as goal

pub returns : goal.returns
returns c = λ text pieces first second mid utf8 whole. sides-show text pieces first second mid utf8 whole.of_text whole.none_broken
