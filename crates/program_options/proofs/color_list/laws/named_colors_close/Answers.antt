use Rattle.program_options.proofs.ColorListLemmas.ClosedLists.{lists-close}
use Rattle.program_options.proofs.ColorListLemmas.ClosedNames.{names-close}
use Rattle.program_options.proofs.color_list.laws.named_colors_close.Goals as goal

pub returns-clause-names : goal.returns-clause-names
returns-clause-names c = names-close

pub returns-clause-listed : goal.returns-clause-listed
returns-clause-listed c = lists-close
