-- The bytes before the place are the prefix, and where they are fewer than the width nothing comes after them.
use Rattle.std.proofs.Common.{◌∙◌, ap, sym}
use Rattle.grid_records_measure.specs.Measures.{are_printable}
use Rattle.grid_records_measure.proofs.PrintableCuts.{printable-fitting_front}
use Rattle.grid_records_measure.proofs.cut.printable_front.Goals as goal

pub returns-then-is_printable-clause-place : goal.returns-then-is_printable-clause-place
returns-then-is_printable-clause-place c =
    (printable-fitting_front c.args.width c.min-room.result c.args.text.now c.min-room.ensures
    (ap are_printable (sym c.in_ok-front.ensures.front) ∙ sym c.is_printable.ensures ∙ c.if-is_printable.true)).0

pub returns-then-is_printable-clause-left : goal.returns-then-is_printable-clause-left
returns-then-is_printable-clause-left c =
    (printable-fitting_front c.args.width c.min-room.result c.args.text.now c.min-room.ensures
    (ap are_printable (sym c.in_ok-front.ensures.front) ∙ sym c.is_printable.ensures ∙ c.if-is_printable.true)).1
