use Rattle.std.proofs.Common.{arith}
use Rattle.tabled_width.proofs.TablesLemmas.Totalling.{held_sizes}
use Rattle.tabled_width.proofs.tables.table_sizes.are_held.Goals as goal

pub returns : goal.returns
returns c = held_sizes c.args.sizes.now (λ k. let fits = c.type_inv.sizes k in omega arith)
