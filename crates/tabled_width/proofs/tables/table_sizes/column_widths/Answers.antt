use Rattle.std.proofs.Common.{◌∙◌, ◌++◌, ◌∷◌, [], ℕ, List, ap, arith, sym, map, slice_index}
use Rattle.std.specs.List.{range_with_len}
use Rattle.std.proofs.lemmas.List.FromFn.{map-range_with_len_more}
use Rattle.tabled_width.proofs.tables.table_sizes.column_widths.Goals as goal

pub loop-column-preserved : goal.loop-column-preserved
loop-column-preserved c =
    let f : ℕ → ℕ = λ column. slice_index c.args.widths.now column in
    let n = c.loop-column.column in
    c.in_ok-push.ensures.items ∙ ap (λ (list : List ℕ). list ++ c.width_at.result ∷ []) c.loop-column.invariant ∙ ap (λ w. map f (range_with_len 0 n) ++ w ∷ []) c.width_at.ensures
    ∙ sym (map-range_with_len_more f 0 n n (omega arith))
