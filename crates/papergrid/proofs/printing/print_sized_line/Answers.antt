use Rattle.std.proofs.Common.{◌∙◌}
use Rattle.papergrid_fits.proofs.Listed.{good-listed}
use Rattle.papergrid.proofs.printing.print_sized_line.Goals as goal

pub print_line-requires-clause-good : goal.print_line-requires-clause-good
print_line-requires-clause-good g c =
    good-listed c.args.cfg.now.spans c.args.rows c.args.columns (g.D.Dimension.width c.args.dims.now) (g.D.Dimension.height c.args.dims.now) c.deref.result.now c.deref-2.result.now
    (c.deref.ensures.value ∙ c.in_ok-widths.ensures) (c.deref-2.ensures.value ∙ c.in_ok-heights.ensures) c.requires.good
