use Rattle.std.proofs.Common.{◌≡◌, ◌<◌, ap, arith}
use Rattle.grid_config_values.specs.Glyphs.{boundary_kind, has_row_boundary}
use Rattle.papergrid_fits.proofs.Reach.{reach-more, total-passes, total-ends}
use Rattle.papergrid_fits.proofs.totals.total_height.Goals as goal

pub loop-row-init : goal.loop-row-init
loop-row-init g c = omega (arith, ap (λ m. m.top.size) c.get_margin-margin.ensures)

pub returns-in_err-total : goal.returns-in_err-total
returns-in_err-total g c =
    let below : c.loop-row.row < c.args.rows = omega (arith, c.loop-row-test.true) in
    total-passes c.args.cfg.now.margin.top.size (g.D.Dimension.height c.args.dims.now) (λ j. has_row_boundary c.args.cfg.now.borders (boundary_kind j c.args.rows))
    c.args.rows c.loop-row.row c.args.cfg.now.margin.bottom.size c.loop-row.total c.get_height.result c.has_horizontal-has_boundary.result c.from_residual.result
    below c.loop-row.invariant c.has_horizontal-has_boundary.ensures c.get_height.ensures c.in_err-total.ensures c.from_residual.ensures

pub loop-row-preserved : goal.loop-row-preserved
loop-row-preserved g c =
    reach-more c.args.cfg.now.margin.top.size (g.D.Dimension.height c.args.dims.now) (λ j. has_row_boundary c.args.cfg.now.borders (boundary_kind j c.args.rows))
    c.loop-row.row c.loop-row.total c.get_height.result c.has_horizontal-has_boundary.result c.in_ok-total.total
    c.loop-row.invariant c.has_horizontal-has_boundary.ensures c.get_height.ensures (c.in_ok-total.ensures).1

pub returns : goal.returns
returns g c =
    let all : c.loop-row.row ≡ c.args.rows = omega (arith, c.loop-row-test.false) in
    total-ends c.args.cfg.now.margin.top.size (g.D.Dimension.height c.args.dims.now) (λ j. has_row_boundary c.args.cfg.now.borders (boundary_kind j c.args.rows))
    c.args.rows c.loop-row.row c.args.cfg.now.margin.bottom.size c.get_margin-margin.result.now.bottom.size c.loop-row.total c.has_horizontal.result c.past-2.result
    all c.loop-row.invariant c.has_horizontal.ensures (ap (λ m. m.bottom.size) c.get_margin-margin.ensures) c.past-2.ensures
