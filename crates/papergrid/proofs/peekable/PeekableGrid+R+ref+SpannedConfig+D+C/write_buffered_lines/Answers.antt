use Rattle.std.proofs.Common.{[], length, subst}
use Rattle.grid_config.specs.Looks.{look_of}
use Rattle.papergrid_picture.specs.Tables.{sizes_of}
use Rattle.papergrid.specs.GridParts.{chosen_grid_text}
use Rattle.papergrid_print.specs.Chosen.{chosen_text}
use Rattle.tabled_output.specs.Pieces.{Passes}
use Rattle.papergrid.proofs.peekable.PeekableGrid+R+ref+SpannedConfig+D+C.write_buffered_lines.Goals as goal

pub returns : goal.returns
returns g c =
    let K = g.W.Write.contents in
    let chooses = g.K.LineChoice.chooses c.args.choice.now in
    let in_grid = c.self.inside in
    let rows = g.R.RecordTexts.rows in_grid.records in
    let look = look_of in_grid.config.now in
    let colors = g.C.Colors.color in_grid.colors in
    let wide = g.D.Dimension.width in_grid.dimension in
    let high = g.D.Dimension.height in_grid.dimension in
    subst (λ grid. Passes K (chosen_grid_text (look_of grid.settings.now) (g.D.Dimension.width grid.sizes) (g.D.Dimension.height grid.sizes) (g.C.Colors.color grid.colors) (g.R.RecordColumns.columns grid.records) (g.R.RecordTexts.rows grid.records) chooses) c.write_sized_lines.result [] c.args.writer.now c.write_sized_lines.new.writer) c.self.view_is
    (subst (λ n. Passes K (chosen_text look rows colors (sizes_of wide n) (sizes_of high (length rows)) chooses) c.write_sized_lines.result [] c.args.writer.now c.write_sized_lines.new.writer) c.count_columns-columns.ensures
    (subst (λ n. Passes K (chosen_text look rows colors (sizes_of wide c.count_columns-columns.result) (sizes_of high n) chooses) c.write_sized_lines.result [] c.args.writer.now c.write_sized_lines.new.writer) c.count_rows-rows.ensures c.write_sized_lines.ensures))
