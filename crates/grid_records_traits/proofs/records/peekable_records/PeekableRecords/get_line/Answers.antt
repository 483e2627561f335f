use Rattle.std.proofs.Common.{List, ℕ, subst}
use Rattle.std.specs.Prelude.{IfOk}
use Rattle.std.specs.Cow.{cow_str_bytes}
use Rattle.grid_records_traits.specs.Cells.{IsLineAt}
use Rattle.grid_records_traits.proofs.records.peekable_records.PeekableRecords.get_line.Goals as goal

pub returns-clause-line : goal.returns-clause-line
returns-clause-line g c = subst (λ (text : List ℕ). IfOk c.line_of.result (λ out. IsLineAt text c.args.line (cow_str_bytes out))) c.get_text.ensures c.line_of.ensures.line
