use Rattle.papergrid_picture.proofs.Joins.{table_lines-joined, table_text-joined}
use Rattle.papergrid_picture.proofs.laws.lines_are_joined.Goals as goal

pub returns : goal.returns
returns c = record { all = table_text-joined; first = table_lines-joined }
