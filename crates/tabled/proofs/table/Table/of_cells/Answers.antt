use Rattle.std.proofs.Common.{ap, ◌∙◌}
use Rattle.tabled.specs.Tables.{new_state}
use Rattle.tabled.proofs.table.Table.of_cells.Goals as goal

pub returns : goal.returns
returns g c = c.new-2.ensures ∙ ap new_state c.new.ensures
