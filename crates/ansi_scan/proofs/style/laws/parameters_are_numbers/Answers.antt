use Rattle.std.proofs.Common.{refl}
use Rattle.ansi_scan.proofs.StyleLemmas.Numbers.{number-decimal}
use Rattle.ansi_scan.proofs.style.laws.parameters_are_numbers.Goals as goal

pub returns-clause-empty : goal.returns-clause-empty
returns-clause-empty c = refl

pub returns-clause-leading_zero : goal.returns-clause-leading_zero
returns-clause-leading_zero c = λ digits. refl

pub returns-clause-digits : goal.returns-clause-digits
returns-clause-digits c = number-decimal
