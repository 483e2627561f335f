use Rattle.std.proofs.Common.{sym, subst}
use Rattle.std.specs.Prelude.{IfOk}
use Rattle.std.specs.Cow.{cow_str_bytes}
use Rattle.grid_records_traits.specs.Cells.{IsLineAt}
use Rattle.basinmug_cells.specs.OwnTexts.{own_text}
use Rattle.basinmug_cells.specs.declared.own_text.OwnText.{OwnText}
use Rattle.basinmug_cells.proofs.own_text.OwnTextCell.line.Goals as goal

pub returns-in-Short-clause-line : goal.returns-in-Short-clause-line
returns-in-Short-clause-line c =
    subst (λ (own : OwnText). IfOk c.line.result (λ out. IsLineAt (own_text own) c.args.index (cow_str_bytes out))) (sym c.in-Short.is) c.line.ensures.line

pub returns-in-Long-clause-line : goal.returns-in-Long-clause-line
returns-in-Long-clause-line c =
    subst (λ (own : OwnText). IfOk c.line-in-Long.result (λ out. IsLineAt (own_text own) c.args.index (cow_str_bytes out))) (sym c.in-Long.is) c.line-in-Long.ensures.line
