use Rattle.std.proofs.Common.{◌<◌, Bool, Some, ap, sym, ◌∙◌, arith}
use Rattle.std.specs.Option.{option_map}
use Rattle.grid_config_values.specs.declared.position.Position.{Position}
use Rattle.papergrid_picture.specs.Fitting.{is_too_wide}
use Rattle.papergrid_picture.specs.Picture.{at}
use Rattle.papergrid_fits.specs.Tables.{sized_frame}
use Rattle.papergrid_fits.proofs.First.{found-row, none-more}
use Rattle.papergrid_fits.proofs.fitting.first_too_wide.Goals as goal

pub returns-in-Some : goal.returns-in-Some
returns-in-Some g c =
    let test : Position → Bool = is_too_wide (sized_frame c.args.cfg.now (g.D.Dimension.width c.args.dims.now) (g.D.Dimension.height c.args.dims.now) c.args.columns 0) (g.R.RecordTexts.rows c.args.records.now) in
    let below : c.loop-row.row < c.args.rows = omega (arith, c.loop-row-test.true) in
    ap Some c.new.ensures ∙ sym (found-row test c.args.columns c.loop-row.row c.args.rows (at c.loop-row.row c.in-Some.column) below c.loop-row.invariant (sym c.first_in_row.ensures ∙ ap (option_map (at c.loop-row.row)) c.in-Some.is))

pub loop-row-preserved : goal.loop-row-preserved
loop-row-preserved g c =
    let test : Position → Bool = is_too_wide (sized_frame c.args.cfg.now (g.D.Dimension.width c.args.dims.now) (g.D.Dimension.height c.args.dims.now) c.args.columns 0) (g.R.RecordTexts.rows c.args.records.now) in
    none-more test c.args.columns c.loop-row.row c.loop-row.invariant (sym c.first_in_row.ensures ∙ ap (option_map (at c.loop-row.row)) c.in_default.is)
