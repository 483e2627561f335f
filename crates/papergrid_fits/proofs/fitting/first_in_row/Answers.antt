use Rattle.std.proofs.Common.{◌+◌, ◌<◌, ◌≤◌, Bool, ap, sym, subst, ◌∙◌, arith}
use Rattle.grid_config_values.specs.Spans.Spans.{extent_at}
use Rattle.grid_config_values.specs.declared.position.Position.{Position}
use Rattle.papergrid_picture.specs.Fitting.{is_too_wide}
use Rattle.papergrid_picture.specs.Picture.{at}
use Rattle.papergrid_fits.specs.Tables.{sized_frame}
use Rattle.papergrid_fits.proofs.First.{columns-inside, found-in_row, none-in_row-more}
use Rattle.papergrid_fits.proofs.fitting.first_in_row.Goals as goal

pub is_too_wide-requires : goal.is_too_wide-requires
is_too_wide-requires g c =
    let below : c.loop-column.column < c.args.columns = omega (arith, c.loop-column-test.true) in
    subst (λ (p : Position). p.col + (extent_at c.args.cfg.now.spans p).columns ≤ c.args.columns) (sym c.new.ensures)
    (columns-inside c.args.cfg.now.spans c.args.rows c.args.columns (at c.args.row c.loop-column.column) c.requires.good c.requires.inside below)

pub returns-then-is_too_wide : goal.returns-then-is_too_wide
returns-then-is_too_wide g c =
    let test : Position → Bool = is_too_wide (sized_frame c.args.cfg.now (g.D.Dimension.width c.args.dims.now) (g.D.Dimension.height c.args.dims.now) c.args.columns 0) (g.R.RecordTexts.rows c.args.records.now) in
    let below : c.loop-column.column < c.args.columns = omega (arith, c.loop-column-test.true) in
    sym (found-in_row test c.args.row c.loop-column.column c.args.columns below c.loop-column.invariant (ap test (sym c.new.ensures) ∙ sym c.is_too_wide.ensures ∙ c.if-is_too_wide.true))

pub loop-column-preserved : goal.loop-column-preserved
loop-column-preserved g c =
    let test : Position → Bool = is_too_wide (sized_frame c.args.cfg.now (g.D.Dimension.width c.args.dims.now) (g.D.Dimension.height c.args.dims.now) c.args.columns 0) (g.R.RecordTexts.rows c.args.records.now) in
    none-in_row-more test c.args.row c.loop-column.column c.loop-column.invariant (ap test (sym c.new.ensures) ∙ sym c.is_too_wide.ensures ∙ c.if-is_too_wide.false)
