use Rattle.std.proofs.Common.{Some, ap, sym, ◌∙◌}
use Rattle.grid_records_traits.specs.SingleLines.{texts_at}
use Rattle.columns_table.specs.Cells.{cell_of}
use Rattle.columns_table.proofs.ResizedCells.{get-some}
use Rattle.columns_table.proofs.Starts.{slice_get-texts}
use Rattle.columns_table.proofs.cell_row.CellRow.cell.Goals as goal

pub returns : goal.returns
returns c =
    let row = c.args.self in
    let texts = texts_at row.text.now row.starts.now in
    let text = c.text_at-text.result.now in
    get-some row.widths.now texts c.args.column text (slice_get-texts row.text.now row.starts.now c.args.column c.requires ∙ ap (λ found. Some found) (sym c.text_at-text.ensures))
    ∙ ap (λ width. Some (cell_of text width)) (sym c.number_at.ensures)
