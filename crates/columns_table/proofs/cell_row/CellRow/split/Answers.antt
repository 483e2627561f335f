use Rattle.std.proofs.Common.{◌≡◌, ◌-◌, take, ap, ◌∙◌, arith}
use Rattle.grid_records_traits.specs.SingleLines.{texts_at}
use Rattle.grid_records_traits.proofs.Starts.{length-texts_at}
use Rattle.columns_table.specs.CellRows.{row_cells}
use Rattle.columns_table.proofs.ResizedCells.{behind-cells}
use Rattle.columns_table.proofs.cell_row.CellRow.split.Goals as goal

pub returns-clause-first : goal.returns-clause-first
returns-clause-first c =
    let all : c.args.count - 0 ≡ c.args.count = omega arith in
    c.new-first.ensures ∙ ap (λ n. take n (row_cells c.args.self)) all

pub returns-clause-behind : goal.returns-clause-behind
returns-clause-behind c =
    let row = c.args.self in
    c.new-behind.ensures ∙ behind-cells row.widths.now (texts_at row.text.now row.starts.now) c.args.count _ (omega (arith, length-texts_at row.text.now row.starts.now))
