use Rattle.std.proofs.Common.{sym}
use Rattle.tabled_width.proofs.TablesLemmas.Drawing.{neither_kept}
use Rattle.tabled_width.proofs.tables.table_sizes.sizes_or_least.Goals as goal

pub returns-then-is_empty-clause-refused : goal.returns-then-is_empty-clause-refused
returns-then-is_empty-clause-refused g c =
    let none = neither_kept c.args.sizes.now.widths c.args.sizes.now.heights (sym c.if-is_empty.ensures) in
    rw (none.0, none.1) c.least_sizes.ensures.refused
