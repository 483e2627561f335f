use Rattle.std.proofs.Common.{◌∙◌}
use Rattle.tabled.specs.Making.{named_field_rows}
use Rattle.tabled.proofs.Even.{even_rows}
use Rattle.tabled.proofs.Naming.{named_rows_wide}
use Rattle.tabled.proofs.makers.named.Table+Text.kv.Goals as goal

pub of_cells-requires : goal.of_cells-requires
of_cells-requires g c =
    let taken = c.in_ok-rows.ensures.rows.1 in
    even_rows (λ text. text) c.in_ok-cells.cells.items (named_field_rows g.T.Tabled.names g.T.Tabled.texts taken) 2 (c.in_ok-cells.ensures ∙ c.in_ok-rows.ensures.rows.4) (named_rows_wide g.T.Tabled.names g.T.Tabled.texts taken)
