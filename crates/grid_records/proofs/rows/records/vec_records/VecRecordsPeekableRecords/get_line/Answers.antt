use Rattle.std.proofs.Common.{List, ℕ, subst, sym}
use Rattle.std.specs.Prelude.{IfOk}
use Rattle.std.specs.Cow.{cow_str_bytes}
use Rattle.grid_records_traits.specs.Cells.{IsLineAt}
use Rattle.grid_records.proofs.rows.records.vec_records.VecRecordsPeekableRecords.get_line.Goals as goal

pub returns-in-Some-clause-line : goal.returns-in-Some-clause-line
returns-in-Some-clause-line g c = subst (λ (text : List ℕ). IfOk c.line.result (λ out. IsLineAt text c.args.line (cow_str_bytes out))) (sym c.in-Some.ensures) c.line.ensures.line

pub returns-in-None-clause-line : goal.returns-in-None-clause-line
returns-in-None-clause-line g c = subst (λ (text : List ℕ). IfOk c.line-in-None.result (λ out. IsLineAt text c.args.line (cow_str_bytes out))) (sym c.in-None.ensures) c.line-in-None.ensures.line
