use Rattle.std.proofs.Common.{◌++◌, ◌-◌, ◌∷◌, [], List, ℕ, ap, ◌∙◌, append_assoc, encode_utf8_all, string_bytes}
use Rattle.std.specs.List.{repeat}
use Rattle.tabled_width_texts.proofs.filling.FilledLineLineChange.push_line.Goals as goal

pub returns : goal.returns
returns c =
    let line = c.args.line.now in
    let width = c.args.self.now.width in
    let one : List ℕ = encode_utf8_all (c.args.self.now.fill ∷ []) in
    let before = string_bytes c.args.out.now in
    let count = c.saturating_sub-count.ensures ∙ ap (λ m. width - m) c.get_line_width.ensures.text in
    c.in_ok-push_repeated.ensures ∙ ap (λ (bytes : List ℕ). bytes ++ repeat c.saturating_sub-count.result one) c.in_ok-push_str.ensures.bytes
    ∙ append_assoc before line (repeat c.saturating_sub-count.result one) ∙ ap (λ n. before ++ (line ++ repeat n one)) count
