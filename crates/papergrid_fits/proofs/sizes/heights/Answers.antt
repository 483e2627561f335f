use Rattle.std.proofs.Common.{◌≡◌, ◌+◌, ℕ, ◌++◌, [], ◌∷◌, ap, sym, ◌∙◌, arith}
use Rattle.std.proofs.lemmas.List.FromFn.{map-range_with_len_more}
use Rattle.papergrid_picture.specs.Tables.{sizes_of}
use Rattle.papergrid_fits.proofs.sizes.heights.Goals as goal

pub loop-row-preserved : goal.loop-row-preserved
loop-row-preserved g c =
    let size : ℕ → ℕ = g.D.Dimension.height c.args.dims.now in
    let place : 0 + c.loop-row.row ≡ c.loop-row.row = omega arith in
    c.in_ok-push.ensures.items ∙ ap (λ xs. xs ++ c.get_height.result ∷ []) c.loop-row.invariant
    ∙ ap (λ n. sizes_of size c.loop-row.row ++ n ∷ []) c.get_height.ensures ∙ sym (map-range_with_len_more size 0 c.loop-row.row c.loop-row.row place)
