-- A cell that a row lacks is empty.
use Rattle.std.proofs.Common.{◌∙◌, List, [], ap, get_or, sym, ℕ}
use Rattle.grid_records_traits.specs.Rows.{text_at}
use Rattle.basinmug_cells.proofs.Even.{text-filled}
use Rattle.basinmug_cells.proofs.even_rows.EvenRows.cell.Goals as goal

pub returns : goal.returns
returns c =
    let rows = c.args.self.now.rows.rows in
    c.cell_or_empty.ensures
    ∙ ap (λ (row : List (List ℕ)). get_or row c.args.pos.col []) c.row.ensures
    ∙ ap (λ (of : List (List (List ℕ))). text_at of c.args.pos) c.view.ensures
    ∙ sym (text-filled rows c.args.pos)
