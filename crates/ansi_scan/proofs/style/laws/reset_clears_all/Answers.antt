use Rattle.std.proofs.Common.{refl}
use Rattle.ansi_scan.specs.Styles.Attributes.{plain_attributes}
use Rattle.ansi_scan.specs.Styles.Rendition.{after_parameters, applied}
use Rattle.ansi_scan.proofs.style.laws.reset_clears_all.Goals as goal

pub returns-clause-clears : goal.returns-clause-clears
unfolding applied after_parameters plain_attributes
returns-clause-clears c = λ a. refl
