-- Each of the two sequences clears everything, by computation.
use Rattle.std.proofs.Common.{refl, ap, ◌≡◌, ◌∙◌, arith}
use Rattle.std.specs.Prelude.{[], ◌∷◌}
use Rattle.std.proofs.lemmas.Grind.{common_steps}
use Rattle.ansi_scan.specs.Styles.Attributes.{Attributes, plain_attributes}
use Rattle.ansi_scan.specs.Styles.Rendition.{after_parameters, applied}
use Rattle.ansi_scan.proofs.style.parameters.is_reset.Goals as goal

applied-without_parameter : (a : Attributes) → applied a (27 ∷ 91 ∷ 109 ∷ []) ≡ plain_attributes
unfolding applied after_parameters plain_attributes
applied-without_parameter a = refl

applied-zero : (a : Attributes) → applied a (27 ∷ 91 ∷ 48 ∷ 109 ∷ []) ≡ plain_attributes
unfolding applied after_parameters plain_attributes
applied-zero a = refl

pub returns-in-27 : goal.returns-in-27
returns-in-27 c = λ same a. ap (applied a) (grind (arith, common_steps)) ∙ applied-without_parameter a

pub returns-in-27-2 : goal.returns-in-27-2
returns-in-27-2 c = λ same a. ap (applied a) (grind (arith, common_steps)) ∙ applied-zero a
