use Rattle.std.proofs.Common.{◌≡◌, ◌+◌, ◌<◌, List, length, get_or, ap, sym, ◌∙◌, arith}
use Rattle.std.specs.Prelude.{slice_range}
use Rattle.std.proofs.lemmas.Grind.{get_or_default_zero}
use Rattle.columns_table.specs.declared.resized_cell.ResizedCell.{ResizedCell}
use Rattle.columns_table.proofs.PlacedRows.{placed-none, placed-row}
use Rattle.columns_table.proofs.resized.ResizedRows.row.Goals as goal

pub returns-then-row-len : goal.returns-then-row-len
returns-then-row-len c =
    let rows = c.args.self.now in
    c.part.ensures ∙ sym (placed-none rows.starts.items rows.cells.items c.args.row (omega (arith, c.if-row-len.true, c.len.ensures, rows.starts.ok.0)))

pub returns : goal.returns
returns c =
    let rows = c.args.self.now in
    let row = c.args.row in
    let starts = rows.starts.items in
    let cells = c.as_slice-cells.result.now in
    let inside : row < length starts = omega (arith, c.if-row-len.false, c.len.ensures, rows.starts.ok.0) in
    let begins : c.index-start.result.now ≡ get_or starts row 0 = c.index-start.ensures ∙ get_or_default_zero starts row _ inside in
    let ends : c.number_at-end.result ≡ get_or starts (row + 1) (length rows.cells.items) =
    c.number_at-end.ensures ∙ ap (λ xs. get_or xs (row + 1) (length cells)) c.deref.ensures.value
    ∙ ap (get_or starts (row + 1)) (ap (λ (all : List ResizedCell). length all) c.as_slice-cells.ensures.value) in
    c.part-2.ensures
    ∙ ap (λ start. slice_range cells start c.number_at-end.result) begins
    ∙ ap (slice_range cells (get_or starts row 0)) ends
    ∙ ap (λ all. slice_range all (get_or starts row 0) (get_or starts (row + 1) (length rows.cells.items))) c.as_slice-cells.ensures.value
    ∙ sym (placed-row starts rows.cells.items row inside)
