use Rattle.std.proofs.Common.{sym, ◌∙◌}
use Rattle.ansi_scan.proofs.StyleLemmas.Equality.{plain_from_test, test_from_plain}
use Rattle.ansi_scan.proofs.style.style.Style.is_plain.Goals as goal

pub returns : goal.returns
returns c = (
  λ nothing. plain_from_test _ (sym c.sets_nothing.ensures ∙ nothing),
  λ plain. c.sets_nothing.ensures ∙ test_from_plain _ plain,
)
