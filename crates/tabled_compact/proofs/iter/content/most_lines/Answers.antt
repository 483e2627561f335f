use Rattle.std.proofs.Common.{arith, ◌≡◌}
use Rattle.std.proofs.lemmas.Grind.{common_steps}
use Rattle.grid_records_traits.specs.TextLines.{text_height}
use Rattle.tabled_compact.proofs.IterLemmas.Measures.{height_of_text}
use Rattle.tabled_compact.proofs.iter.content.most_lines.Goals as goal

pub loop-cell-preserved : goal.loop-cell-preserved
loop-cell-preserved g c =
    let counted : c.count_lines.result ≡ text_height (g.C.Cell.text c.cell-item.result) = height_of_text (g.C.Cell.text c.cell-item.result) c.count_lines.result c.count_lines.ensures in
    grind (arith, common_steps, counted)
