use Rattle.std.proofs.Common.{List, ℕ, subst}
use Rattle.std.specs.Cow.{cow_str_bytes}
use Rattle.std.specs.Prelude.{IfOk}
use Rattle.grid_records_traits.specs.Cells.{IsLineAt}
use Rattle.columns_table.proofs.resized.ResizedRowsPeekableRecords.get_line.Goals as goal

pub returns-clause-line : goal.returns-clause-line
returns-clause-line c = subst (λ (text : List ℕ). IfOk c.line.result (λ out. IsLineAt text c.args.line (cow_str_bytes out))) c.cell.ensures c.line.ensures.line
