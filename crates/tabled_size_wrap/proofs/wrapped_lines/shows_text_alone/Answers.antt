-- Bytes without ESC are all passed.
use Rattle.std.proofs.Common.{◌≡◌, ◌∙◌, false, ap, drop, sym, take}
use Rattle.std.specs.List.{prefix_len}
use Rattle.ansi_scan.specs.Sequences.{is_not_escape}
use Rattle.ansi_str.specs.StyledText.{has_escape}
use Rattle.ansi_str.specs.Walking.{begins_with_escape}
use Rattle.tabled_size_wrap.proofs.PlainSlices.{not-true, run-whole}
use Rattle.tabled_size_wrap.proofs.wrapped_lines.shows_text_alone.Goals as goal

pub returns-clause-run : goal.returns-clause-run
returns-clause-run c = λ _.
    let slice = c.split_at.result.0.now in
    let none : has_escape slice ≡ false = sym c.contains.ensures.value ∙ c.if-contains.false in
    sym c.split_at.ensures.front_len ∙ sym (run-whole slice none)
    ∙ ap (prefix_len is_not_escape) (c.split_at.ensures.front ∙ ap (take c.args.len) c.as_bytes-bytes.ensures.value)

pub returns-clause-behind : goal.returns-clause-behind
returns-clause-behind c = λ yes.
    sym (ap begins_with_escape (c.split_at.ensures.back ∙ ap (drop c.args.len) c.as_bytes-bytes.ensures.value))
    ∙ sym c.begins_with_escape.ensures ∙ not-true c.begins_with_escape.result yes
