use Rattle.std.proofs.Common.{[], ◌∙◌}
use Rattle.grid_config.specs.Looks.{look_of}
use Rattle.papergrid_picture.specs.Tables.{sizes_of, table_text}
use Rattle.tabled_output.specs.Pieces.{Passes}
use Rattle.tabled_output.proofs.WrittenPieces.{passes-none}
use Rattle.papergrid_fits.proofs.Listed.{by-sizes, good-listed}
use Rattle.papergrid.proofs.printing.write_sized.Goals as goal

pub write_table-requires-clause-good : goal.write_table-requires-clause-good
write_table-requires-clause-good g c =
    good-listed c.args.cfg.now.spans c.args.rows c.args.columns (g.D.Dimension.width c.args.dims.now) (g.D.Dimension.height c.args.dims.now) c.deref.result.now c.deref-2.result.now
    (c.deref.ensures.value ∙ c.in_ok-widths.ensures) (c.deref-2.ensures.value ∙ c.in_ok-heights.ensures) c.requires.good

pub returns-in_err-widths : goal.returns-in_err-widths
returns-in_err-widths g c = passes-none g.W.Write.contents (table_text (look_of c.args.cfg.now) (g.R.RecordTexts.rows c.args.records.now) (g.C.Colors.color c.args.colors.now) (sizes_of (g.D.Dimension.width c.args.dims.now) c.args.columns) (sizes_of (g.D.Dimension.height c.args.dims.now) c.args.rows)) [] c.from_residual.result c.args.writer.now c.from_residual.ensures.0

pub returns-in_err-heights : goal.returns-in_err-heights
returns-in_err-heights g c = passes-none g.W.Write.contents (table_text (look_of c.args.cfg.now) (g.R.RecordTexts.rows c.args.records.now) (g.C.Colors.color c.args.colors.now) (sizes_of (g.D.Dimension.width c.args.dims.now) c.args.columns) (sizes_of (g.D.Dimension.height c.args.dims.now) c.args.rows)) [] c.from_residual-in_err-heights.result c.args.writer.now c.from_residual-in_err-heights.ensures.0

pub returns : goal.returns
returns g c =
    let rows = g.R.RecordTexts.rows c.args.records.now in
    by-sizes (λ widths heights. Passes g.W.Write.contents (table_text (look_of c.args.cfg.now) rows (g.C.Colors.color c.args.colors.now) widths heights) c.write_table.result [] c.args.writer.now c.write_table.new.writer)
    c.deref.result.now c.deref-2.result.now _ _ (c.deref.ensures.value ∙ c.in_ok-widths.ensures) (c.deref-2.ensures.value ∙ c.in_ok-heights.ensures) c.write_table.ensures
