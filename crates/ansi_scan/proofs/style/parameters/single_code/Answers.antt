-- The digits, written as 48 and more.
use Rattle.std.proofs.Common.{ap, ◌-◌, ◌∙◌, arith, slice_index_or}
use Rattle.std.proofs.lemmas.Grind.{common_steps}
use Rattle.ansi_scan.specs.Styles.Rendition.{applied}
use Rattle.ansi_scan.proofs.StyleLemmas.Bytewise.{applied-one_digit, applied-two_digits}
use Rattle.ansi_scan.proofs.style.parameters.single_code.Goals as goal

pub returns-in-27 : goal.returns-in-27
returns-in-27 c = λ a.
    ap (applied a) (grind (arith, common_steps))
    ∙ applied-one_digit a (slice_index_or c.args.sequence.now 2 0 - 48) (omega arith)

pub returns-in-27-2 : goal.returns-in-27-2
returns-in-27-2 c = λ a.
    ap (applied a) (grind (arith, common_steps))
    ∙ applied-two_digits a (slice_index_or c.args.sequence.now 2 0 - 48) (slice_index_or c.args.sequence.now 3 0 - 48) (omega arith) (omega arith)
