use Rattle.std.proofs.Common.{◌≡◌, ◌+◌, ◌-◌, ◌^◌, ◌<◌, ℕ, ◌++◌, [], ◌∷◌, ap, length, map, min, sym, ◌∙◌, arith}
use Rattle.std.proofs.lemmas.Grind.{common_steps}
use Rattle.std.proofs.lemmas.List.{take_more_set}
use Rattle.std.proofs.lemmas.List.FromFn.{map-range_with_len_more}
use Rattle.std.specs.List.{range_with_len}
use Rattle.tabled_compact.specs.Columns.{spaced_width}
use Rattle.tabled_compact.proofs.columns.widths_of.Goals as goal

pub loop-column-preserved : goal.loop-column-preserved
loop-column-preserved g c =
    let width : ℕ → ℕ = spaced_width (map (λ row. map g.T.Cell.text row) c.args.rows.now) in
    let at : ℕ = c.loop-column.column in
    let inside : at < length c.loop-column.widths = grind (arith, common_steps) in
    let place : 0 + at ≡ at = omega arith in
    let wide : c.saturating_add.result ≡ width at = c.saturating_add.ensures ∙ ap (λ n. min (n + 2) (2 ^ 64 - 1)) c.column_width.ensures in (
      grind (arith, common_steps),
      take_more_set c.loop-column.widths at c.saturating_add.result inside
          ∙ ap (λ xs. xs ++ c.saturating_add.result ∷ []) c.loop-column.invariant.1
          ∙ ap (λ n. map width (range_with_len 0 at) ++ n ∷ []) wide ∙ sym (map-range_with_len_more width 0 at at place),
    )
