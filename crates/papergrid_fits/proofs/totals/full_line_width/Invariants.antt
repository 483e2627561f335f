use Rattle.std.proofs.Common.{◌≡◌}
use Rattle.grid_config_values.specs.Glyphs.{boundary_kind, has_column_boundary}
use Rattle.papergrid_fits.proofs.Reach.{reach}
use Rattle.papergrid_fits.proofs.totals.full_line_width.Given as goal

abbrev pub invariant-loop-column : goal.invariant-loop-column
invariant-loop-column g l = l.total ≡ reach l.cfg.margin.left.size (g.D.Dimension.width l.dims) (λ j. has_column_boundary l.cfg.borders (boundary_kind j l.columns)) l.column
