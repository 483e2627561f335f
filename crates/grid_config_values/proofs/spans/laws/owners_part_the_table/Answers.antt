use Rattle.grid_config_values.proofs.SpansLemmas.Owners.{owner_goes_on, owner_holds, owner_in_table, owner_is_only, owner_is_visible}
use Rattle.grid_config_values.proofs.spans.laws.owners_part_the_table.Goals as goal

pub returns-clause-holds : goal.returns-clause-holds
returns-clause-holds c = owner_holds

pub returns-clause-visible : goal.returns-clause-visible
returns-clause-visible c = owner_is_visible

pub returns-clause-inside : goal.returns-clause-inside
returns-clause-inside c = owner_in_table

pub returns-clause-only : goal.returns-clause-only
returns-clause-only c = owner_is_only

pub returns-clause-owns : goal.returns-clause-owns
returns-clause-owns c = owner_goes_on
