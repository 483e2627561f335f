use Rattle.std.proofs.Common.{refl}
use Rattle.tabled_options.proofs.MultilineLemmas.LaidOut.{looks_laid}
use Rattle.tabled_options.proofs.multiline.config.laid_out.Goals as goal

pub returns : goal.returns
returns c =
    looks_laid c.args.vertical c.args.formatting c.args.config c.set_alignment_vertical-aligned.new.self c.set_line_alignment-lines.new.self c.set_trim_horizontal-sides.new.self c.set_trim_vertical-ends.new.self
    c.set_alignment_vertical-aligned.result c.set_line_alignment-lines.result c.set_trim_horizontal-sides.result c.set_trim_vertical-ends.result
    c.set_alignment_vertical-aligned.ensures.others c.set_alignment_vertical-aligned.ensures.outcome.set (c.set_alignment_vertical-aligned.ensures.outcome.global refl)
    c.set_line_alignment-lines.ensures.others c.set_line_alignment-lines.ensures.outcome.set (c.set_line_alignment-lines.ensures.outcome.global refl)
    c.set_trim_horizontal-sides.ensures.others c.set_trim_horizontal-sides.ensures.outcome.set (c.set_trim_horizontal-sides.ensures.outcome.global refl)
    c.set_trim_vertical-ends.ensures.others c.set_trim_vertical-ends.ensures.outcome.set (c.set_trim_vertical-ends.ensures.outcome.global refl)
