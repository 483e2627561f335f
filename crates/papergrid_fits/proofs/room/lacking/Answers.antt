use Rattle.std.proofs.Common.{◌≡◌, ◌+◌, ◌-◌, ◌≤◌, ◌&&◌, nat_lt, ℕ, Bool, ap, ◌∙◌, arith}
use Rattle.grid_config_values.specs.Glyphs.{boundary_kind, has_column_boundary}
use Rattle.papergrid_picture.specs.Frame.{thickness}
use Rattle.papergrid_fits.proofs.Reach.{left-more, strip_length, stretch-strip}
use Rattle.papergrid_fits.proofs.room.lacking.Goals as goal

pub loop-column-preserved : goal.loop-column-preserved
loop-column-preserved g c =
    let margin = c.args.cfg.now.margin.left.size in
    let size : ℕ → ℕ = g.D.Dimension.width c.args.dims.now in
    let has : ℕ → Bool = λ j. has_column_boundary c.args.cfg.now.borders (boundary_kind j c.args.columns) in
    let column = c.loop-column.column in
    let ahead : c.args.first ≤ column = c.loop-column.invariant.0 in
    let next : c.without-left.result ≡ c.loop-column.left - (thickness (nat_lt c.args.first column && has column) + size column) =
    c.without-left.ensures ∙ ap (λ b. c.loop-column.left - (thickness b + c.get_width.result)) c.is_behind_boundary-has_boundary.ensures
    ∙ ap (λ n. c.loop-column.left - (thickness (nat_lt c.args.first column && has column) + n)) c.get_width.ensures in
    let more : c.args.first ≤ column + 1 = omega (arith, ahead) in
    (more, left-more margin size has c.args.need c.args.first column c.loop-column.left c.without-left.result ahead c.loop-column.invariant.1 next)

pub returns : goal.returns
returns g c =
    let margin = c.args.cfg.now.margin.left.size in
    let size : ℕ → ℕ = g.D.Dimension.width c.args.dims.now in
    let has : ℕ → Bool = λ j. has_column_boundary c.args.cfg.now.borders (boundary_kind j c.args.columns) in
    let all : c.loop-column.column - c.args.first ≡ c.args.count = omega (arith, c.loop-column-test.false, c.loop-column.invariant.0) in
    let whole = stretch-strip margin size has c.args.columns c.args.first c.args.count c.requires in
    omega (arith, c.loop-column.invariant.1, ap (strip_length margin size has c.args.first) all, whole)
