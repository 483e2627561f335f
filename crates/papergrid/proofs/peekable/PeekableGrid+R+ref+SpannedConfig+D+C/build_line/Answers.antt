use Rattle.std.proofs.Common.{◌++◌, ap, length, string_bytes, ◌∙◌}
use Rattle.grid_config.specs.Looks.{look_of}
use Rattle.papergrid_picture.specs.Tables.{sizes_of, table_line}
use Rattle.papergrid.specs.GridParts.{line_text}
use Rattle.papergrid.proofs.peekable.PeekableGrid+R+ref+SpannedConfig+D+C.build_line.Goals as goal

pub returns-clause-text : goal.returns-clause-text
returns-clause-text g c =
    let in_grid = c.self.inside in
    let rows = g.R.RecordTexts.rows in_grid.records in
    let look = look_of in_grid.config.now in
    let colors = g.C.Colors.color in_grid.colors in
    let wide = g.D.Dimension.width in_grid.dimension in
    let high = g.D.Dimension.height in_grid.dimension in
    let before = string_bytes c.args.out.now in
    c.in_ok-print_sized_line.ensures.text
    ∙ ap (λ n. before ++ table_line look rows colors (sizes_of wide c.count_columns-columns.result) (sizes_of high n) c.args.y) c.count_rows-rows.ensures
    ∙ ap (λ n. before ++ table_line look rows colors (sizes_of wide n) (sizes_of high (length rows)) c.args.y) c.count_columns-columns.ensures
    ∙ ap (λ grid. before ++ line_text (look_of grid.settings.now) (g.D.Dimension.width grid.sizes) (g.D.Dimension.height grid.sizes) (g.C.Colors.color grid.colors) (g.R.RecordColumns.columns grid.records) (g.R.RecordTexts.rows grid.records) c.args.y) c.self.view_is
