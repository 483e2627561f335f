use Rattle.std.proofs.Common.{Some, ap, ◌∙◌}
use Rattle.tabled_size_wrap.specs.Bytes.{cut_at}
use Rattle.tabled_width_texts.proofs.Measuring.{wide_changes, wide_stays}
use Rattle.tabled_width_texts.proofs.justifying.cut_measured.Goals as goal

pub returns-then-columns-width : goal.returns-then-columns-width
returns-then-columns-width c =
    let text = c.args.text.now in
    wide_stays text c.args.columns c.args.width c.requires (cut_at c.args.width text) c.if-columns-width.true

pub returns : goal.returns
returns c =
    let text = c.args.text.now in
    ap Some (c.in_ok-new.ensures ∙ c.in_ok-cut.ensures.ok ∙ c.in_ok-cut_styled.ensures.bytes)
    ∙ wide_changes text c.args.columns c.args.width c.requires (cut_at c.args.width text) c.if-columns-width.false
