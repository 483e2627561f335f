use Rattle.std.proofs.Common.{ap, ◌∙◌}
use Rattle.columns_table.specs.ResizedTexts.{rows_texts}
use Rattle.columns_table.proofs.ResizedRows.{rows-kept}
use Rattle.columns_table.proofs.resized.ResizedRows.new.Goals as goal

pub returns-clause-rows : goal.returns-clause-rows
returns-clause-rows c =
    ap (λ starts. rows_texts starts c.in_ok-cells.cells.items) c.starts_of.ensures
    ∙ rows-kept c.args.rows.counts.items c.in_ok-cells.cells.items _ c.in_ok-cells.ensures.whole c.in_ok-cells.ensures.texts
