use Rattle.grid_records_fronts.proofs.BoundsLemmas.Costs.{bounded}
use Rattle.grid_records_fronts.proofs.bounds.no_text_measures_above_its_columns.Goals as goal

pub returns : goal.returns
returns c = bounded
