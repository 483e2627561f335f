use Rattle.std.proofs.Common.{◌≡◌, length, ap, arith}
use Rattle.std.specs.Prelude.{List, ℕ}
use Rattle.grid_records_traits.specs.SingleLines.{texts_at}
use Rattle.grid_records_traits.proofs.Starts.{length-texts_at}
use Rattle.columns_table.specs.declared.cells.LineCell.{LineCell}
use Rattle.columns_table.proofs.ResizedCells.{length-cells}
use Rattle.columns_table.proofs.cells.LineCells.between.Goals as goal

pub between-requires-clause-there : goal.between-requires-clause-there
between-requires-clause-there c =
    let cells = c.self.inside in
    let texts = texts_at cells.text.now cells.starts.items in
    let same : length c.deref.result.now ≡ length cells.starts.items = ap (λ (found : List ℕ). length found) c.deref.ensures.value in
    omega (arith, c.requires.there, same, c.self.invariant.0, ap (λ (found : List LineCell). length found) c.self.view_is, length-cells cells.widths.items texts, length-texts_at cells.text.now cells.starts.items)
