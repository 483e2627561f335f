use Rattle.std.proofs.Common.{◌≡◌}
use Rattle.grid_config_values.specs.Glyphs.{boundary_kind, has_row_boundary}
use Rattle.papergrid_fits.proofs.Reach.{reach}
use Rattle.papergrid_fits.proofs.totals.total_height.Given as goal

abbrev pub invariant-loop-row : goal.invariant-loop-row
invariant-loop-row g l = l.total ≡ reach l.cfg.margin.top.size (g.D.Dimension.height l.dims) (λ j. has_row_boundary l.cfg.borders (boundary_kind j l.rows)) l.row
