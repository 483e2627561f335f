use Rattle.std.proofs.Common.{List, None, Option, ap, get_or, ◌∙◌, arith}
use Rattle.papergrid_cells.specs.declared.block.OpenCell.{OpenCell}
use Rattle.papergrid_print.proofs.Open.{closed-more}
use Rattle.papergrid_print.proofs.printer.add_closed.Goals as goal

pub loop-preserved : goal.loop-preserved
loop-preserved c = record {
  wide = search arith;
  same = λ column. ap (λ (cells : List (Option OpenCell)). get_or cells column None) c.in_ok-push.ensures.items ∙ (closed-more c.loop.cells.items column ∙ c.loop.invariant.same column);
}
