use Rattle.std.proofs.Common.{◌≡◌, ◌++◌, ◌-◌, ℕ, List, string_bytes, ap, ◌∙◌}
use Rattle.std.specs.Prelude.{slice_index}
use Rattle.std.specs.Option.{option_map}
use Rattle.std.proofs.lemmas.Result.{on_ok_weaker}
use Rattle.grid_config.specs.Colors.{color_of}
use Rattle.grid_config.specs.Looks.{look_of}
use Rattle.papergrid_picture.specs.Blocks.{free_left}
use Rattle.papergrid_cells.specs.BlockLines.{text_of}
use Rattle.papergrid_cells.specs.Flat.{Standing, joints_of, line_in_column, room_in, spaced_text, standing_of}
use Rattle.papergrid_cells.specs.Painting.{colored, fill_bytes}
use Rattle.papergrid_cells.specs.Shown.{counted_columns, measures_of}
use Rattle.papergrid_cells.proofs.FlatParts.{appended, part-is}
use Rattle.papergrid_cells.proofs.flat.FlatRows.push_part.Goals as goal

pub returns : goal.returns
returns c =
    let rows = c.args.self.now in
    let settings = c.args.cfg.now in
    let cell = c.args.cell.now in
    let out = string_bytes c.args.out.now in
    let alignment = (look_of settings).alignment_horizontal cell.pos in
    let stands : Standing = standing_of rows alignment in
    let room = room_in (joints_of rows) cell.width in
    let measure = c.width-measure.result in
    let counted = c.counted-counted.result in
    let before = c.free_before_line-before.result in
    let text = c.text.result.now in
    let color = option_map color_of cell.color in
    let free : ℕ → List ℕ = λ n. colored (option_map color_of rows.fill_color) (fill_bytes rows.fill n) in
    let tail = spaced_text rows.tail in
    let before_is : before ≡ free_left alignment (room - counted) =
    c.free_before_line-before.ensures c.args.columns c.requires.made
    ∙ ap (free_left alignment) (c.saturating_sub.ensures ∙ ap (λ n. n - counted) c.room-room.ensures) in
    let behind_is : c.saturating_sub-free.result ≡ room - before - measure =
    c.saturating_sub-free.ensures ∙ ap (λ n. n - measure) (c.saturating_sub-2.ensures ∙ ap (λ n. n - before) c.room-room.ensures) in
    let shown : free before ++ (colored color text ++ free c.saturating_sub-free.result) ≡ line_in_column stands cell.width measure counted color text =
    ap (λ n. free before ++ (colored color text ++ free n)) behind_is ∙ ap (λ n. free n ++ (colored color text ++ free (room - n - measure))) before_is in
    let line = slice_index (measures_of cell.lines) c.args.k in
    let own : ℕ = counted_columns ((look_of settings).line_alignment cell.pos) (measures_of cell.lines) c.args.k in
    let counted_is : counted ≡ own = c.counted-counted.ensures ∙ ap (λ b. counted_columns b (measures_of cell.lines) c.args.k) c.get_line_alignment.ensures in
    on_ok_weaker c.push_rest.result
    (λ last.
    appended out c.head_of.result.now (free before) (colored color text) (free c.saturating_sub-free.result) tail
    c.in_ok-push_str.ensures.bytes c.in_ok-push_fill.ensures c.in_ok-push_text.ensures last
    ∙ (ap (λ l. out ++ (c.head_of.result.now ++ (l ++ tail)))
    (shown
    ∙ (ap (λ n. line_in_column stands cell.width n counted color text) c.width-measure.ensures
    ∙ (ap (λ n. line_in_column stands cell.width line n color text) counted_is
    ∙ ap (λ l. line_in_column stands cell.width line own color l) c.text.ensures)))
    ∙ ap (λ l. out ++ l)
    (ap (λ l. l ++ (line_in_column stands cell.width line own color (text_of cell c.args.k) ++ tail)) c.head_of.ensures
    ∙ part-is settings c.requires.even c.args.columns rows cell c.args.k c.requires.made c.requires.column)))
    c.push_rest.ensures
