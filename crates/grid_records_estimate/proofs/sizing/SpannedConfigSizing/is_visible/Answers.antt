use Rattle.grid_records_estimate.proofs.Visibility.{is_visible-decides}
use Rattle.grid_records_estimate.proofs.sizing.SpannedConfigSizing.is_visible.Goals as goal

pub returns : goal.returns
returns c = is_visible-decides _ c.args.pos c.is_cell_visible.result c.is_cell_visible.ensures
