use Rattle.columns_table.proofs.SeenLines.{asked-lines, asked-shown}
use Rattle.columns_table.proofs.laws.each_line_of_a_cell_is_seen.Goals as goal

pub returns-clause-all_lines : goal.returns-clause-all_lines
returns-clause-all_lines c = asked-lines

pub returns-clause-shown : goal.returns-clause-shown
returns-clause-shown c = asked-shown
