use Rattle.grid_records_estimate.proofs.Visibility.{is_visible-exact}
use Rattle.grid_records_estimate.proofs.laws.sizes_see_what_spans_see.Goals as goal

pub returns : goal.returns
returns c = is_visible-exact
