-- A plain style has an empty start and an empty end.
use Rattle.std.proofs.Common.{◌∙◌, ◌++◌, List, ℕ, ap, string_bytes, sym}
use Rattle.ansi_str_search.proofs.PlainParts.{plain_part}
use Rattle.tabled_size_wrap.proofs.wrapped_lines.push_between.Goals as goal

pub returns-then-is_plain-2 : goal.returns-then-is_plain-2
returns-then-is_plain-2 c =
    let out = string_bytes c.args.out.now in
    let part = c.front-slice.ensures ∙ sym (plain_part c.args.from.now.style c.args.to.now.style _ (c.is_plain.ensures.0 c.if-is_plain.true) (c.is_plain-then-is_plain.ensures.0 c.if-is_plain-2.true)) in
    c.in_ok-push_str.ensures.bytes ∙ ap (λ (bytes : List ℕ). out ++ bytes) part
