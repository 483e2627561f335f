use Rattle.std.proofs.Common.{◌≡◌, ◌-◌, ◌<◌, ◌≤◌, length, slice_index, ap, sym, ◌∙◌, arith}
use Rattle.std.specs.Cow.{cow_str_bytes}
use Rattle.std.proofs.lemmas.List.{length-map, map_push}
use Rattle.columns_asked.specs.Resizing.{resized_text}
use Rattle.columns_table.specs.Cells.{anywhere}
use Rattle.columns_table.specs.CellRows.{row_cells}
use Rattle.columns_table.specs.Records.{IsSingleLineCell}
use Rattle.columns_table.specs.Resized.{resize_to}
use Rattle.columns_table.specs.ResizedTexts.{cells_texts}
use Rattle.columns_table.specs.Rows.{cell_texts}
use Rattle.columns_table.specs.declared.cells.LineCell.{LineCell}
use Rattle.columns_table.specs.declared.resized_cell.ResizedCell.{ResizedCell}
use Rattle.columns_table.proofs.ResizedCells.{each-some, text-some}
use Rattle.columns_table.proofs.ResizedRows.{row-ended, row-pushed}
use Rattle.columns_table.proofs.resized.push_row.Goals as goal

pub resize_cell-requires : goal.resize_cell-requires
resize_cell-requires c = each-some IsSingleLineCell (row_cells c.args.row) c.loop-column.column (anywhere c.cell.result) c.cell.ensures c.requires

pub loop-column-preserved : goal.loop-column-preserved
loop-column-preserved c =
    let asked = c.args.asked.now in
    let widths = c.args.widths.now in
    let beside = c.args.beside in
    let cells = row_cells c.args.row in
    let column = c.loop-column.column in
    let inside : column < length (cell_texts cells) = omega (arith, c.loop-column-test.true, c.len-column-end.ensures.cells, length-map cells (λ (cell : LineCell). cell.text.now)) in
    let room : c.saturating_sub-room.result ≡ slice_index widths column - beside = c.saturating_sub-room.ensures ∙ ap (λ n. n - beside) c.number_at-width.ensures in
    row-pushed (λ column. resized_text (resize_to asked (slice_index widths column - beside))) (cells_texts c.push.new.self.items) (cells_texts c.loop-column.kept.items)
    (cow_str_bytes c.in_ok-resize_cell.field-0.text) (cell_texts cells) column inside
    (ap cells_texts c.in_ok-push.ensures.items ∙ map_push (λ (cell : ResizedCell). cow_str_bytes cell.text) c.loop-column.kept.items c.in_ok-resize_cell.field-0)
    (c.in_ok-resize_cell.ensures
    ∙ ap (λ room. resized_text (resize_to asked room) c.cell.result.text.now) room
    ∙ ap (resized_text (resize_to asked (slice_index widths column - beside))) (sym (text-some cells column (anywhere c.cell.result) c.cell.ensures)))
    ∙ c.loop-column.invariant

pub returns : goal.returns
returns c =
    let asked = c.args.asked.now in
    let widths = c.args.widths.now in
    let texts = cell_texts (row_cells c.args.row) in
    let column = c.loop-column.column in
    let past : length texts ≤ column = omega (arith, c.loop-column-test.false, c.len-column-end.ensures.cells, length-map (row_cells c.args.row) (λ (cell : LineCell). cell.text.now)) in
    sym (row-ended (λ column. resized_text (resize_to asked (slice_index widths column - c.args.beside))) (cells_texts c.loop-column.kept.items) texts column past) ∙ c.loop-column.invariant
