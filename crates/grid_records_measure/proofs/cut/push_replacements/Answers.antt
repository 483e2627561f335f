-- One more was appended.
use Rattle.std.proofs.Common.{◌∙◌, ◌++◌, ap, append_assoc, encode_utf8, encode_utf8_all, replicate, string_bytes}
use Rattle.grid_records_measure.specs.Cutting.{replacement}
use Rattle.grid_records_measure.proofs.Cuts.{encodes-one_more}
use Rattle.grid_records_measure.proofs.cut.push_replacements.Goals as goal

pub loop-preserved : goal.loop-preserved
loop-preserved c =
    let before = string_bytes c.args.out.now in
    let more = encode_utf8_all (replicate c.loop.counter replacement) in
    c.in_ok-push.ensures.bytes
    ∙ ap (λ bytes. bytes ++ encode_utf8 replacement) c.loop.invariant
    ∙ append_assoc before more (encode_utf8 replacement)
    ∙ ap (λ bytes. before ++ bytes) (encodes-one_more c.loop.counter replacement)
