use Rattle.std.proofs.Common.{◌≡◌, ◌-◌, length, ap, ◌∙◌, arith}
use Rattle.std.specs.Prelude.{List}
use Rattle.grid_records_traits.specs.SingleLines.{texts_at}
use Rattle.grid_records_traits.proofs.Starts.{length-texts_at}
use Rattle.columns_table.specs.Cells.{cells_of}
use Rattle.columns_table.specs.declared.cells.LineCell.{LineCell}
use Rattle.columns_table.proofs.ResizedCells.{length-cells}
use Rattle.columns_table.proofs.cells.LineCells.len.Goals as goal

pub returns : goal.returns
returns c =
    let cells = c.self.inside in
    let texts = texts_at cells.text.now cells.starts.items in
    let kept : c.len.result - 1 ≡ length (cells_of cells.widths.items texts) =
    omega (arith, c.len.ensures, cells.starts.ok.0, length-cells cells.widths.items texts, length-texts_at cells.text.now cells.starts.items) in
    kept ∙ ap (λ (found : List LineCell). length found) c.self.view_is
