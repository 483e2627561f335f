use Rattle.grid_config_values.proofs.SpansLemmas.Owners.{own_decides, owner_single, owner_without}
use Rattle.grid_config_values.proofs.spans.laws.visible_cells_own_themselves.Goals as goal

pub returns-clause-visible : goal.returns-clause-visible
returns-clause-visible c = own_decides

pub returns-clause-without : goal.returns-clause-without
returns-clause-without c = owner_without

pub returns-clause-single : goal.returns-clause-single
returns-clause-single c = owner_single
