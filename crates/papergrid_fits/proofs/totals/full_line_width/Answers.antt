use Rattle.std.proofs.Common.{◌≡◌, ◌<◌, ap, arith}
use Rattle.grid_config_values.specs.Glyphs.{boundary_kind, has_column_boundary}
use Rattle.papergrid_fits.proofs.Reach.{reach-more, total-passes, total-ends}
use Rattle.papergrid_fits.proofs.totals.full_line_width.Goals as goal

pub loop-column-init : goal.loop-column-init
loop-column-init g c = omega (arith, ap (λ m. m.left.size) c.get_margin-margin.ensures)

pub returns-in_err-total : goal.returns-in_err-total
returns-in_err-total g c =
    let below : c.loop-column.column < c.args.columns = omega (arith, c.loop-column-test.true) in
    total-passes c.args.cfg.now.margin.left.size (g.D.Dimension.width c.args.dims.now) (λ j. has_column_boundary c.args.cfg.now.borders (boundary_kind j c.args.columns))
    c.args.columns c.loop-column.column c.args.cfg.now.margin.right.size c.loop-column.total c.get_width.result c.has_vertical-has_boundary.result c.from_residual.result
    below c.loop-column.invariant c.has_vertical-has_boundary.ensures c.get_width.ensures c.in_err-total.ensures c.from_residual.ensures

pub loop-column-preserved : goal.loop-column-preserved
loop-column-preserved g c =
    reach-more c.args.cfg.now.margin.left.size (g.D.Dimension.width c.args.dims.now) (λ j. has_column_boundary c.args.cfg.now.borders (boundary_kind j c.args.columns))
    c.loop-column.column c.loop-column.total c.get_width.result c.has_vertical-has_boundary.result c.in_ok-total.total
    c.loop-column.invariant c.has_vertical-has_boundary.ensures c.get_width.ensures (c.in_ok-total.ensures).1

pub returns : goal.returns
returns g c =
    let all : c.loop-column.column ≡ c.args.columns = omega (arith, c.loop-column-test.false) in
    total-ends c.args.cfg.now.margin.left.size (g.D.Dimension.width c.args.dims.now) (λ j. has_column_boundary c.args.cfg.now.borders (boundary_kind j c.args.columns))
    c.args.columns c.loop-column.column c.args.cfg.now.margin.right.size c.get_margin-margin.result.now.right.size c.loop-column.total c.has_vertical.result c.past-2.result
    all c.loop-column.invariant c.has_vertical.ensures (ap (λ m. m.right.size) c.get_margin-margin.ensures) c.past-2.ensures
