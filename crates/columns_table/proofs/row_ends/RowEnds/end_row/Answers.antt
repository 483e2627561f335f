use Rattle.std.proofs.Common.{◌≡◌, ℕ, List, [], ◌∷◌, ◌++◌, length, sum, ap, sym, subst, ◌∙◌, arith}
use Rattle.std.proofs.lemmas.List.{length-map}
use Rattle.columns_table.specs.Columns.{AreWidest, end_widths}
use Rattle.columns_table.specs.declared.ends.CellEnd.{CellEnd}
use Rattle.columns_table.proofs.SplitByLengths.{sum-more}
use Rattle.columns_table.proofs.Widest.{AreWidest-ended}
use Rattle.columns_table.proofs.row_ends.RowEnds.end_row.Goals as goal

pub invariant_of-self-2 : goal.invariant_of-self-2
invariant_of-self-2 c =
    let rows = c.self.inside in
    let ended : List ℕ = rows.counts.items ++ rows.begun ∷ [] in
    let total : sum ended ≡ length rows.ends = sum-more rows.counts.items rows.begun ∙ c.self.invariant.0 in
    let whole : sum ended ≡ length (end_widths rows.ends) = total ∙ sym (length-map rows.ends (λ (end : CellEnd). end.width)) in (
      omega (arith, total, ap sum c.in_ok-push.ensures.items),
      subst (λ (counts : List ℕ). AreWidest rows.widest.items (counts ++ 0 ∷ []) (end_widths rows.ends)) (sym c.in_ok-push.ensures.items)
          (AreWidest-ended ended (end_widths rows.ends) whole rows.widest.items c.self.invariant.1),
    )
