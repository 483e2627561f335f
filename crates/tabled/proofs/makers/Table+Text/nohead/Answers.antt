use Rattle.std.proofs.Common.{◌++◌, ◌∙◌, ap, length, map}
use Rattle.tabled_text.specs.Rows.{text_rows}
use Rattle.tabled.specs.Tables.{new_state}
use Rattle.tabled.proofs.Even.{even_rows}
use Rattle.tabled.proofs.makers.Table+Text.nohead.Goals as goal

pub of_cells-requires : goal.of_cells-requires
of_cells-requires g c = even_rows (λ text. text) c.in_ok-cells.cells.items (text_rows c.in_ok-rows.rows.items) (length g.T.Tabled.names) c.in_ok-cells.ensures c.in_ok-rows.ensures.wide

pub returns-clause-table : goal.returns-clause-table
returns-clause-table g c =
    let (s, taken, gives, drains, rows) = c.in_ok-rows.ensures.rows in
    (s, taken, gives, drains, c.of_cells.ensures ∙ ap new_state (c.in_ok-cells.ensures ∙ (rows ∙ ap (λ before. text_rows before ++ map g.T.Tabled.texts taken) c.new.ensures.items)))
