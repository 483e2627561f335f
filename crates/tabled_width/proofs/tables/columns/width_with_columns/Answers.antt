use Rattle.std.proofs.Common.{arith}
use Rattle.tabled_width.proofs.TablesLemmas.Totalling.{held_sizes}
use Rattle.tabled_width.proofs.tables.columns.width_with_columns.Goals as goal

pub returns-clause-held : goal.returns-clause-held
returns-clause-held c = held_sizes c.args.widths.now (λ k. let fits = c.type_inv.widths k in omega arith)
