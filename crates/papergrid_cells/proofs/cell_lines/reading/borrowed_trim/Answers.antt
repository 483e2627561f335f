use Rattle.std.proofs.Common.{◌∙◌, sym}
use Rattle.papergrid_cells.proofs.KeptLines.{trimmed-plain}
use Rattle.papergrid_cells.proofs.cell_lines.reading.borrowed_trim.Goals as goal

pub returns : goal.returns
returns c = c.trim.ensures.trim ∙ trimmed-plain c.args.text.now c.utf8.text (sym c.ansi_has_any.ensures ∙ c.if-ansi_has_any.false)
