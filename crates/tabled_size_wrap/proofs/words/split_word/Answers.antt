-- The text is cut after its first word or space.
use Rattle.std.proofs.Common.{◌≡◌, ◌∙◌, ◌-◌, min, max, length, take, ap, arith}
use Rattle.tabled_size_wrap.proofs.AllUnits.{front_len, split-word-is, split-boundary}
use Rattle.tabled_size_wrap.proofs.words.split_word.Goals as goal

pub range-requires-clause-end_boundary : goal.range-requires-clause-end_boundary
range-requires-clause-end_boundary c =
    let text = c.args.text.now in
    let len : c.min-len.result ≡ min (max (front_len text) 1) (length text) = c.min-len.ensures ∙ ap (λ n. min n (length text)) (c.max.ensures ∙ ap (λ n. max n 1) c.word_len.ensures) in
    split-boundary text c.min-len.result len c.utf8.text

pub range_from-requires : goal.range_from-requires
range_from-requires c = λ _.
    let text = c.args.text.now in
    let len : c.min-len.result ≡ min (max (front_len text) 1) (length text) = c.min-len.ensures ∙ ap (λ n. min n (length text)) (c.max.ensures ∙ ap (λ n. max n 1) c.word_len.ensures) in
    split-boundary text c.min-len.result len c.utf8.text

pub returns : goal.returns
returns c =
    let text = c.args.text.now in
    let len : c.min-len.result ≡ min (max (front_len text) 1) (length text) = c.min-len.ensures ∙ ap (λ n. min n (length text)) (c.max.ensures ∙ ap (λ n. max n 1) c.word_len.ensures) in
    let from-start : c.min-len.result - 0 ≡ c.min-len.result = omega arith in
    split-word-is text c.min-len.result len c.range.result.now c.range_from.result.now c.range.utf8 c.range_from.utf8
    (c.range.ensures.value ∙ ap (λ k. take k text) from-start) c.range_from.ensures.value
