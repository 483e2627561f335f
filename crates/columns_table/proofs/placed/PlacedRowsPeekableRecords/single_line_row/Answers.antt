use Rattle.std.proofs.Common.{◌≤◌, All, length, map, ap, sym, subst, ◌∙◌, arith}
use Rattle.grid_records_traits.specs.SingleLines.{texts_at}
use Rattle.grid_records_traits.proofs.Starts.{length-texts_at}
use Rattle.columns_table.specs.Records.{IsSingleLineCell}
use Rattle.columns_table.proofs.ResizedCells.{plain-cells, texts-cells}
use Rattle.columns_table.proofs.PlacedRows.{row-keeps, row-texts}
use Rattle.columns_table.proofs.placed.PlacedRowsPeekableRecords.single_line_row.Goals as goal

pub new-requires-clause-single_lines : goal.new-requires-clause-single_lines
new-requires-clause-single_lines c =
    let rows = c.args.self.now in
    let cells = c.row-cells.result in
    let texts = texts_at cells.text.now cells.starts.now in
    let within : length cells.widths.now ≤ length texts = omega (arith, cells.within, length-texts_at cells.text.now cells.starts.now) in
    plain-cells cells.widths.now texts within
    (subst (All IsSingleLineCell) (sym c.row-cells.ensures) (row-keeps IsSingleLineCell rows.starts.items rows.cells c.args.row rows.measured))

pub returns : goal.returns
returns c =
    let rows = c.args.self.now in
    let cells = c.row-cells.result in
    c.new.ensures.texts
    ∙ sym (texts-cells cells.widths.now (texts_at cells.text.now cells.starts.now))
    ∙ ap (map (λ cell. cell.text.now)) c.row-cells.ensures
    ∙ sym (row-texts rows.starts.items rows.cells c.args.row)
