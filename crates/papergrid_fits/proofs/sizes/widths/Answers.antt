use Rattle.std.proofs.Common.{◌≡◌, ◌+◌, ℕ, ◌++◌, [], ◌∷◌, ap, sym, ◌∙◌, arith}
use Rattle.std.proofs.lemmas.List.FromFn.{map-range_with_len_more}
use Rattle.papergrid_picture.specs.Tables.{sizes_of}
use Rattle.papergrid_fits.proofs.sizes.widths.Goals as goal

pub loop-column-preserved : goal.loop-column-preserved
loop-column-preserved g c =
    let size : ℕ → ℕ = g.D.Dimension.width c.args.dims.now in
    let place : 0 + c.loop-column.column ≡ c.loop-column.column = omega arith in
    c.in_ok-push.ensures.items ∙ ap (λ xs. xs ++ c.get_width.result ∷ []) c.loop-column.invariant
    ∙ ap (λ n. sizes_of size c.loop-column.column ++ n ∷ []) c.get_width.ensures ∙ sym (map-range_with_len_more size 0 c.loop-column.column c.loop-column.column place)
