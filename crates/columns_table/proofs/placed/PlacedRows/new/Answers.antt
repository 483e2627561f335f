use Rattle.std.proofs.Common.{sym, subst, ◌∙◌}
use Rattle.columns_table.specs.Records.{Ascend}
use Rattle.columns_table.proofs.PlacedRows.{ascend}
use Rattle.columns_table.proofs.placed.PlacedRows.new.Goals as goal

pub invariant_of-result-clause-ascending : goal.invariant_of-result-clause-ascending
invariant_of-result-clause-ascending c =
    let rows = c.args.rows in
    subst (λ starts. Ascend starts c.len-end.result) (sym c.starts_of.ensures) (ascend rows.counts.items c.len-end.result (rows.whole ∙ sym c.len-end.ensures))
