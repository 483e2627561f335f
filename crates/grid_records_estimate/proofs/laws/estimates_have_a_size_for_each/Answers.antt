use Rattle.grid_records_estimate.proofs.Lengths.{length-table_heights, length-table_widths}
use Rattle.grid_records_estimate.proofs.laws.estimates_have_a_size_for_each.Goals as goal

pub returns-clause-widths : goal.returns-clause-widths
returns-clause-widths c = length-table_widths

pub returns-clause-heights : goal.returns-clause-heights
returns-clause-heights c = length-table_heights
