use Rattle.grid_tests.proofs.tests.single_lines.single_line_row.Goals as goal

pub new-requires-clause-single_lines : goal.new-requires-clause-single_lines
new-requires-clause-single_lines g c = c.in_ok-are_plain.ensures c.if-branch.true
