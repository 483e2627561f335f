-- One more was appended.
use Rattle.std.proofs.Common.{◌∙◌, ◌++◌, ◌∷◌, ◌<◌, [], List, ℕ, ap, append_assoc, arith, encode_utf8, replicate, string_bytes}
use Rattle.std.proofs.lemmas.List.{replicate_more}
use Rattle.std.proofs.lemmas.Str.{encode_ascii}
use Rattle.grid_records_measure.specs.TextLines.{line_feed}
use Rattle.tabled_height.proofs.lines.push_line_feeds.Goals as goal

pub loop-preserved : goal.loop-preserved
loop-preserved c =
    let before : List ℕ = string_bytes c.args.out.now in
    let more : List ℕ = replicate c.loop.counter line_feed in
    let low : line_feed < 128 = omega arith in
    c.in_ok-push.ensures.bytes
    ∙ ap (λ (bytes : List ℕ). bytes ++ encode_utf8 line_feed) c.loop.invariant
    ∙ ap (λ (bytes : List ℕ). (before ++ more) ++ bytes) (encode_ascii line_feed low)
    ∙ append_assoc before more (line_feed ∷ [])
    ∙ ap (λ (bytes : List ℕ). before ++ bytes) (replicate_more c.loop.counter line_feed)
