use Rattle.std.proofs.Common.{subst, sym}
use Rattle.std.specs.Prelude.{IfOk}
use Rattle.std.specs.Cow.{cow_str_bytes}
use Rattle.grid_records_traits.specs.Cells.{IsLineAt}
use Rattle.basinmug_cells.specs.Fields.{field_text}
use Rattle.basinmug_cells.specs.declared.field.Field.{Field}
use Rattle.basinmug_cells.proofs.field.FieldCell.line.Goals as goal

pub returns-in-Part-clause-line : goal.returns-in-Part-clause-line
returns-in-Part-clause-line c = subst (λ (field : Field). IsLineAt (field_text field) c.args.index c.line.result.now) (sym c.in-Part.is) c.line.ensures

pub returns-in-Own-clause-line : goal.returns-in-Own-clause-line
returns-in-Own-clause-line c =
    subst (λ (field : Field). IfOk c.line-in-Own.result (λ out. IsLineAt (field_text field) c.args.index (cow_str_bytes out))) (sym c.in-Own.is) c.line-in-Own.ensures.line
