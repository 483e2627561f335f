use Rattle.std.proofs.Common.{arith}
use Rattle.grid_config.specs.Looks.{look_of}
use Rattle.papergrid_cells.proofs.EmptyRows.{none-left}
use Rattle.papergrid_cells.proofs.flat.free_before_line_of.Goals as goal

pub returns-then-free-eq0 : goal.returns-then-free-eq0
returns-then-free-eq0 c = none-left ((look_of c.args.cfg.now).alignment_horizontal c.args.pos) c.args.free (omega (arith, c.if-free-eq0.true))
