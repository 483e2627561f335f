use Rattle.std.proofs.Common.{◌==◌, ◌++◌, ◌∷◌, [], slice_index, if◌then◌else◌}
use Rattle.columns_asked.specs.Colors.ColumnColors.{cell_color}
use Rattle.grid_config.specs.Looks.{look_of}
use Rattle.grid_records_measure.specs.TextLines.{line_feed}
use Rattle.papergrid_fits.specs.Grids.{grid_text}
use Rattle.tabled_output.proofs.WrittenPieces.{passes-none}
use Rattle.columns_table.proofs.table.write_where_fits.Goals as goal

pub returns-in_err-fits-clause-text : goal.returns-in_err-fits-clause-text
returns-in_err-fits-clause-text g c =
    passes-none g.W.Write.contents (if c.args.sizes.whole_height == 0 then [] else grid_text (look_of c.args.settings.now) (slice_index c.args.sizes.widths.items) (slice_index c.args.sizes.heights.items) (cell_color c.args.colors.now) (g.R.RecordColumns.columns c.args.records.now) (g.R.RecordTexts.rows c.args.records.now) ++ line_feed ∷ []) [] c.from_residual.result c.args.writer.now c.from_residual.ensures.0
