use Rattle.std.proofs.Common.{List, subst, ℕ}
use Rattle.std.specs.Prelude.{IfOk}
use Rattle.std.specs.Cow.{cow_str_bytes}
use Rattle.grid_records_traits.specs.Cells.{IsLineAt}
use Rattle.basinmug_cells.proofs.even_rows.EvenRowsPeekableRecords.get_line.Goals as goal

pub returns-in-Part-clause-line : goal.returns-in-Part-clause-line
returns-in-Part-clause-line c = subst (λ (text : List ℕ). IsLineAt text c.args.line c.line.result.now) c.in-Part.ensures c.line.ensures

pub returns-in-Own-clause-line : goal.returns-in-Own-clause-line
returns-in-Own-clause-line c =
    subst (λ (text : List ℕ). IfOk c.line-in-Own.result (λ out. IsLineAt text c.args.line (cow_str_bytes out))) c.in-Own.ensures c.line-in-Own.ensures.line
