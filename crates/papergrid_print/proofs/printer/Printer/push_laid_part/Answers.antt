use Rattle.std.proofs.Common.{◌≡◌, ◌+◌, ◌<◌, ◌++◌, ◌-◌, ◌∙◌, ap, arith, get_or, length, string_bytes, subst}
use Rattle.std.specs.Prelude.{slice_index}
use Rattle.std.specs.Option.{option_map}
use Rattle.std.proofs.lemmas.Result.{IfOk-weaker}
use Rattle.grid_config.specs.Colors.{color_of}
use Rattle.grid_config.specs.Looks.{look_of}
use Rattle.grid_config_values.specs.declared.position.Position.{Position}
use Rattle.papergrid_picture.specs.Picture.{seen}
use Rattle.papergrid_cells.specs.BlockLines.{block_line_at}
use Rattle.papergrid_cells.specs.Flat.{GoesOn, joint_behind, joints_of, line_in_column, standing_of}
use Rattle.papergrid_cells.specs.Shown.{counted_columns, measures_of}
use Rattle.papergrid_cells.specs.declared.block.BlockLine.TheVariants.{Text}
use Rattle.papergrid_cells.proofs.EmptyRows.{length-slots}
use Rattle.papergrid_print.specs.Sheets.{ShowsCell, grid_of}
use Rattle.papergrid_print.specs.Printed.{table_sheet}
use Rattle.papergrid_print.proofs.Flat.{seen-own}
use Rattle.papergrid_print.proofs.Laid.{cell_line, laid-more, line-inside, none-kept, of-column, open-part, own-slot, tail_from}
use Rattle.papergrid_print.proofs.LinesShown.{kept-shows}
use Rattle.papergrid_print.proofs.printer.Printer.push_laid_part.Goals as goal

pub index-requires : goal.index-requires
index-requires g c =
    let widths = c.args.self.now.widths.now in
    omega (arith, c.requires.column, c.args.empty.now.slots.ok.0, ap (λ slots. length slots) c.requires.empty_row.1.0.slots, length-slots (joints_of c.args.flat.now) c.requires.empty_row.0 (length widths) 0 widths)

pub push_next-requires : goal.push_next-requires
push_next-requires g c =
    let sheet = table_sheet c.args.self.now in
    let some = c.requires.empty_row in
    own-slot sheet c.args.flat.now c.requires.even c.args.empty.now some c.args.i c.args.y c.args.j c.requires.column c.requires.laid.0 (string_bytes c.args.out.now) c.args.left.now (c.requires.laid.1 some) _ some.1.0.slots _ c.index.ensures

pub returns-in-Some : goal.returns-in-Some
returns-in-Some g c =
    let sheet = table_sheet c.args.self.now in
    let table = c.requires.even in
    let rows = c.args.flat.now in
    let empty = c.args.empty.now in
    let i = c.args.i in
    let j = c.args.j in
    let y = c.args.y in
    let look = look_of sheet.settings in
    let cell = c.in-Some.cell in
    let pos = seen (grid_of sheet) i j in
    let own = seen-own sheet table.settings.single i j in
    let first : pos.col ≡ j = ap (λ (p : Position). p.col) own in
    let below : j < length c.args.cells.now = omega (arith, c.requires.is_open.wide, c.requires.column) in
    let shows : ShowsCell sheet pos cell = kept-shows sheet pos c.args.cells.now j cell c.index-cells-j.result below (c.requires.is_open.is_open j c.requires.column first) c.index-cells-j.is c.in-Some.is in
    let k = c.text_line-k.result in
    let lines = length (measures_of cell.lines) in
    let kind : block_line_at look cell.pos lines cell.height (y - cell.top) ≡ Text k =
    subst (λ n. n < cell.height → block_line_at look cell.pos lines cell.height n ≡ Text k) c.saturating_sub.ensures (c.text_line-k.ensures table.settings)
    (line-inside sheet table.settings i y j c.requires.line.row c.requires.column cell shows c.requires.line) in
    let part = open-part sheet table.settings i y j c.requires.line.row c.requires.column cell shows rows k table kind in
    let stands = standing_of rows (look.alignment_horizontal cell.pos) in
    let width = get_or sheet.widths j 0 in
    let color = option_map color_of cell.color in
    let line = c.text-line.result.now in
    let same : line_in_column stands width c.width-measure.result c.counted-counted.result color line ≡ cell_line sheet table.settings i y j c.requires.line.row c.requires.column cell shows rows k =
    ap (λ n. line_in_column stands width n c.counted-counted.result color line) c.width-measure.ensures
    ∙ (ap (λ n. line_in_column stands width (slice_index (measures_of cell.lines) k) n color line) c.counted-counted.ensures
    ∙ ap (λ l. line_in_column stands width (slice_index (measures_of cell.lines) k) (counted_columns cell.line_alignment (measures_of cell.lines) k) color l) c.text-line.ensures) in
    IfOk-weaker c.push_next.result _ _
    (λ rest next. λ begin laid some.
    let goes = laid some in
    let has = own-slot sheet rows table empty some i y j c.requires.column begin (string_bytes c.args.out.now) c.args.left.now goes _ some.1.0.slots _ c.index.ensures in
    let wide = of-column sheet rows table empty some i y j c.requires.column begin (string_bytes c.args.out.now) c.args.left.now goes _ some.1.0.slots _ c.index.ensures in
    let front = string_bytes c.args.out.now ++ goes.middle in
    let behind = joint_behind (joints_of rows) j (length sheet.widths) ++ tail_from sheet rows table empty some i y (j + 1) in
    laid-more sheet rows table empty some i y j c.requires.column begin (string_bytes c.args.out.now) c.args.left.now goes _ some.1.0.slots _ c.index.ensures
    (cell_line sheet table.settings i y j c.requires.line.row c.requires.column cell shows rows k) part
    (subst (λ l. GoesOn (string_bytes c.push_next.new.out) rest.now (front ++ l) behind) same
    (next (length sheet.widths) width table.rows wide has)))
    c.push_next.ensures

pub returns-in-None : goal.returns-in-None
returns-in-None g c =
    let sheet = table_sheet c.args.self.now in
    let pos = seen (grid_of sheet) c.args.i c.args.j in
    let first : pos.col ≡ c.args.j = ap (λ (p : Position). p.col) (seen-own sheet c.requires.even.settings.single c.args.i c.args.j) in
    let below : c.args.j < length c.args.cells.now = omega (arith, c.requires.is_open.wide, c.requires.column) in
    absurd (none-kept sheet pos c.args.cells.now c.args.j c.index-cells-j.result below (c.requires.is_open.is_open c.args.j c.requires.column first) c.index-cells-j.is c.in-None.is)
