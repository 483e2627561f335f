use Rattle.std.proofs.Common.{◌≡◌}
use Rattle.papergrid_picture.specs.Tables.{sizes_of}
use Rattle.papergrid_fits.proofs.sizes.widths.Given as goal

abbrev pub invariant-loop-column : goal.invariant-loop-column
invariant-loop-column g l = l.sizes.items ≡ sizes_of (g.D.Dimension.width l.dims) l.column
