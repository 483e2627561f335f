use Rattle.std.proofs.Common.{Some, ap, ◌∙◌}
use Rattle.grid_records_traits.specs.Rows.{text_at}
use Rattle.tabled_size_wrap.specs.Bytes.{wrapped_text}
use Rattle.tabled_width_texts.proofs.Measuring.{wide_changes, wide_stays}
use Rattle.tabled_width_texts.proofs.wrapping.WrappingWiderRoomChange.fit.Goals as goal

pub returns-then-get_width-room : goal.returns-then-get_width-room
returns-then-get_width-room g c =
    let text = text_at (g.R.RecordTexts.rows c.args.records.now) c.args.pos in
    wide_stays text c.get_width.result c.args.room c.get_width.ensures (wrapped_text c.args.room c.args.self.now.keep_words text) c.if-get_width-room.true

pub returns : goal.returns
returns g c =
    let text = text_at (g.R.RecordTexts.rows c.args.records.now) c.args.pos in
    let keep_words = c.args.self.now.keep_words in
    ap Some (c.in_ok-new.ensures ∙ c.in_ok-wrapped.ensures.bytes ∙ ap (wrapped_text c.args.room keep_words) c.get_text.ensures)
    ∙ wide_changes text c.get_width.result c.args.room c.get_width.ensures (wrapped_text c.args.room keep_words text) c.if-get_width-room.false
