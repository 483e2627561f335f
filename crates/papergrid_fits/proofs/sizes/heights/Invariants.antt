use Rattle.std.proofs.Common.{◌≡◌}
use Rattle.papergrid_picture.specs.Tables.{sizes_of}
use Rattle.papergrid_fits.proofs.sizes.heights.Given as goal

abbrev pub invariant-loop-row : goal.invariant-loop-row
invariant-loop-row g l = l.sizes.items ≡ sizes_of (g.D.Dimension.height l.dims) l.row
