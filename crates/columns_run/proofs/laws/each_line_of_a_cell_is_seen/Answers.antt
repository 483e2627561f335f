use Rattle.columns_run.proofs.Widths.{line-seen, lines-seen}
use Rattle.columns_run.proofs.laws.each_line_of_a_cell_is_seen.Goals as goal

pub returns : goal.returns
returns c = record { all_lines = lines-seen; shown = line-seen }
