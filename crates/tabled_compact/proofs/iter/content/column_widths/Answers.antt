use Rattle.std.proofs.Common.{◌≡◌, ◌+◌, ℕ, ◌++◌, [], ◌∷◌, ap, map, sym, ◌∙◌, arith}
use Rattle.std.proofs.lemmas.List.FromFn.{map-range_with_len_more}
use Rattle.std.specs.List.{range_with_len}
use Rattle.grid_records_traits.specs.Sources.{texts_of_rows}
use Rattle.tabled_compact.specs.Columns.{column_width}
use Rattle.tabled_compact.proofs.iter.content.column_widths.Goals as goal

pub loop-column-preserved : goal.loop-column-preserved
loop-column-preserved g c =
    let width : ℕ → ℕ = column_width (texts_of_rows g.C.Cell.text c.args.sniffed.now) in
    let place : 0 + c.loop-column.column ≡ c.loop-column.column = omega arith in
    c.in_ok-push.ensures.items ∙ ap (λ xs. xs ++ c.column_width.result ∷ []) c.loop-column.invariant
    ∙ ap (λ n. map width (range_with_len 0 c.loop-column.column) ++ n ∷ []) c.column_width.ensures ∙ sym (map-range_with_len_more width 0 c.loop-column.column c.loop-column.column place)
