use Rattle.papergrid_picture.proofs.Joins.{table_text-joined}
use Rattle.tabled.specs.Printing.{drawn_heights, drawn_widths}
use Rattle.tabled.proofs.PlainLines.{plain-line}
use Rattle.tabled.proofs.laws.totals_count_lines_and_columns.Goals as goal

pub returns-clause-lines : goal.returns-clause-lines
returns-clause-lines c = λ s. table_text-joined s.look s.rows s.colors (drawn_widths s) (drawn_heights s)

pub returns-clause-columns : goal.returns-clause-columns
returns-clause-columns c = plain-line
