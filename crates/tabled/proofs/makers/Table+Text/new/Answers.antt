use Rattle.std.proofs.Common.{length}
use Rattle.tabled_text.specs.Rows.{text_rows}
use Rattle.tabled.proofs.Even.{even_rows}
use Rattle.tabled.proofs.makers.Table+Text.new.Goals as goal

pub of_cells-requires : goal.of_cells-requires
of_cells-requires g c = even_rows (λ text. text) c.in_ok-cells.cells.items (text_rows c.in_ok-rows.rows.items) (length g.T.Tabled.names) c.in_ok-cells.ensures c.in_ok-rows.ensures.wide
