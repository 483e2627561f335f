use Rattle.std.proofs.Common.{subst}
use Rattle.command_line.specs.Columns.Asking.{IsAnswer}
use Rattle.command_line.proofs.ColumnsLemmas.Colors.{asked-close}
use Rattle.columns.proofs.Styles.{asked-narrow}
use Rattle.columns.proofs.answered.Goals as goal

pub print-requires : goal.print-requires
print-requires c = record {
  narrow = asked-narrow _ c.in-Ok-Run.options c.in-Ok-Run.streamed (subst (IsAnswer _) c.in-Ok-Run.field-0-is c.in-Ok-Run.ensures.answer);
  close = asked-close _ c.in-Ok-Run.options c.in-Ok-Run.streamed (subst (IsAnswer _) c.in-Ok-Run.field-0-is c.in-Ok-Run.ensures.answer);
}
