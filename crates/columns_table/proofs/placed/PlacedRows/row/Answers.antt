use Rattle.std.proofs.Common.{◌≡◌, ◌+◌, ◌<◌, length, get_or, ap, sym, ◌∙◌, arith}
use Rattle.std.specs.Prelude.{slice_range}
use Rattle.std.proofs.lemmas.Grind.{get_or_default_zero}
use Rattle.columns_table.proofs.PlacedRows.{placed-none, placed-row}
use Rattle.columns_table.proofs.placed.PlacedRows.row.Goals as goal

pub returns-then-row-len : goal.returns-then-row-len
returns-then-row-len c =
    let rows = c.args.self.now in
    c.range.ensures ∙ sym (placed-none rows.starts.items rows.cells c.args.row (omega (arith, c.if-row-len.true, c.len.ensures, rows.starts.ok.0)))

pub returns : goal.returns
returns c =
    let rows = c.args.self.now in
    let row = c.args.row in
    let inside : row < length rows.starts.items = omega (arith, c.if-row-len.false, c.len.ensures, rows.starts.ok.0) in
    let begins : c.index.result.now ≡ get_or rows.starts.items row 0 = c.index.ensures ∙ get_or_default_zero rows.starts.items row _ inside in
    let ends : c.number_at-end.result ≡ get_or rows.starts.items (row + 1) (length rows.cells) =
    c.number_at-end.ensures ∙ ap (λ xs. get_or xs (row + 1) rows.end) c.deref.ensures.value ∙ ap (get_or rows.starts.items (row + 1)) rows.whole in
    c.between.ensures
    ∙ ap (λ start. slice_range rows.cells start c.number_at-end.result) begins
    ∙ ap (slice_range rows.cells (get_or rows.starts.items row 0)) ends
    ∙ sym (placed-row rows.starts.items rows.cells row inside)
