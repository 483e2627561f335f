use Rattle.std.proofs.Common.{sym}
use Rattle.columns_run.proofs.styled_rows.part_width.Goals as goal

pub returns-then-end : goal.returns-then-end
returns-then-end c = sym (c.requires c.if-end.true)

pub returns-else-end : goal.returns-else-end
returns-else-end c = c.get_line_width.ensures.text
