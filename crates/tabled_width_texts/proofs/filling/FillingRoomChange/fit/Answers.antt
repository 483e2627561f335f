use Rattle.std.proofs.Common.{List, ℕ, Some, ap, ◌∙◌, map}
use Rattle.std.specs.List.{join_with_byte}
use Rattle.grid_records_measure.specs.TextLines.{line_feed, text_lines}
use Rattle.grid_records_traits.specs.Rows.{text_at}
use Rattle.tabled_width_texts.specs.Filling.{filled_line}
use Rattle.tabled_width_texts.proofs.Measuring.{narrow_changes, narrow_stays}
use Rattle.tabled_width_texts.proofs.filling.FillingRoomChange.fit.Goals as goal

-- the text with its lines filled
abbrev filled_text : ℕ → ℕ → List ℕ → List ℕ
filled_text room fill text = join_with_byte line_feed (map (filled_line room fill) (text_lines text))

pub returns-then-get_width-room : goal.returns-then-get_width-room
returns-then-get_width-room g c =
    let text = text_at (g.R.RecordTexts.rows c.args.records.now) c.args.pos in
    narrow_stays text c.get_width.result c.args.room c.get_width.ensures (filled_text c.args.room c.args.self.now.fill text) c.if-get_width-room.true

pub returns : goal.returns
returns g c =
    let text = text_at (g.R.RecordTexts.rows c.args.records.now) c.args.pos in
    let room = c.args.room in
    let fill = c.args.self.now.fill in
    ap Some (c.in_ok-new.ensures ∙ c.in_ok-filled.ensures ∙ ap (filled_text room fill) c.get_text.ensures)
    ∙ narrow_changes text c.get_width.result room c.get_width.ensures (filled_text room fill text) c.if-get_width-room.false
