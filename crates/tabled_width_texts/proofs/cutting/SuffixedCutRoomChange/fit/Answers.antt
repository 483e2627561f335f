use Rattle.std.proofs.Common.{Some, ap, ◌∙◌}
use Rattle.grid_records_traits.specs.Rows.{text_at}
use Rattle.tabled_width_texts.specs.Cutting.{cut_text}
use Rattle.tabled_width_texts.specs.Cuts.{suffixed_cut_of}
use Rattle.tabled_width_texts.proofs.Measuring.{wide_changes, wide_stays}
use Rattle.tabled_width_texts.proofs.cutting.SuffixedCutRoomChange.fit.Goals as goal

pub returns-then-get_width-room : goal.returns-then-get_width-room
returns-then-get_width-room g c =
    let text = text_at (g.R.RecordTexts.rows c.args.records.now) c.args.pos in
    wide_stays text c.get_width.result c.args.room c.get_width.ensures (cut_text (suffixed_cut_of c.args.self.now) c.args.room text) c.if-get_width-room.true

pub returns : goal.returns
returns g c =
    let text = text_at (g.R.RecordTexts.rows c.args.records.now) c.args.pos in
    let cutting = suffixed_cut_of c.args.self.now in
    ap Some (c.in_ok-new.ensures ∙ c.in_ok-cut.ensures ∙ ap (cut_text cutting c.args.room) c.get_text.ensures)
    ∙ wide_changes text c.get_width.result c.args.room c.get_width.ensures (cut_text cutting c.args.room text) c.if-get_width-room.false
