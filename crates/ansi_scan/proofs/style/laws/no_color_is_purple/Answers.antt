use Rattle.ansi_scan.proofs.StyleLemmas.Names.{color_of_is_not_purple}
use Rattle.ansi_scan.proofs.style.laws.no_color_is_purple.Goals as goal

pub returns-clause-dark : goal.returns-clause-dark
returns-clause-dark c = λ color. (color_of_is_not_purple color).0

pub returns-clause-bright : goal.returns-clause-bright
returns-clause-bright c = λ color. (color_of_is_not_purple color).1
