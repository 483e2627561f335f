use Rattle.std.proofs.Common.{◌≡◌, ℕ, List, ◌++◌, ◌∷◌, [], length, sum, ap, sym, subst, ◌∙◌, arith}
use Rattle.std.proofs.lemmas.List.{length-map}
use Rattle.columns_table.specs.Columns.{AreWidest, cell_widths, end_widths}
use Rattle.columns_table.specs.declared.cells.LineCell.{LineCell}
use Rattle.columns_table.specs.declared.ends.CellEnd.{CellEnd}
use Rattle.columns_table.proofs.EndsOfCells.{length-cells_in}
use Rattle.columns_table.proofs.Widest.{AreWidest-all, widths-in}
use Rattle.columns_table.proofs.rows.Rows.of.Goals as goal

pub invariant_of-result : goal.invariant_of-result
invariant_of-result c =
    let text = c.args.text.now in
    let parts = c.into_parts-ends in
    let ends = parts.result.0 in
    let counts = parts.result.1.items in
    let widest = parts.result.2.items in
    let none : c.args.rows.begun ≡ 0 = c.requires.ended in
    let total : sum counts ≡ length ends = omega (arith, parts.ensures.total, none) in
    let whole : sum counts ≡ length (end_widths ends) = total ∙ sym (length-map ends (λ (end : CellEnd). end.width)) in
    let are : AreWidest widest (counts ++ 0 ∷ []) (end_widths ends) = subst (λ n. AreWidest widest (counts ++ n ∷ []) (end_widths ends)) none parts.ensures.widest in
    record {
      whole = total ∙ sym (ap (λ (cells : List LineCell). length cells) c.of.ensures ∙ length-cells_in text ends);
      widths = subst (λ (widths : List ℕ). AreWidest widest counts widths) (sym (ap cell_widths c.of.ensures ∙ widths-in text ends))
          (AreWidest-all counts (end_widths ends) whole widest are);
    }
