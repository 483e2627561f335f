use Rattle.ansi_scan.proofs.StyleLemmas.Forms.{after_parameters-nil, after_parameters-none, after_parameters-code, after_parameters-color}
use Rattle.ansi_scan.proofs.style.laws.parameters_in_order.Goals as goal

pub returns-clause-none_left : goal.returns-clause-none_left
returns-clause-none_left c = after_parameters-nil

pub returns-clause-no_number : goal.returns-clause-no_number
returns-clause-no_number c = after_parameters-none

pub returns-clause-code : goal.returns-clause-code
returns-clause-code c = λ a code others other. after_parameters-code a code others other

pub returns-clause-color : goal.returns-clause-color
returns-clause-color c = after_parameters-color
