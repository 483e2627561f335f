use Rattle.std.proofs.Common.{◌∙◌}
use Rattle.tabled.proofs.Even.{even_filled}
use Rattle.tabled.proofs.table.Table+Text.from_builder.Goals as goal

pub of_cells-requires : goal.of_cells-requires
of_cells-requires c = even_filled (λ text. text) c.in_ok-cells.cells.items c.args.builder (c.in_ok-cells.ensures ∙ c.in_ok-rows.ensures)
