use Rattle.std.proofs.Common.{◌++◌, ◌-◌, ap, string_bytes, ◌∙◌, drop}
use Rattle.papergrid_cells.proofs.Spaces.{last-spaces}
use Rattle.papergrid_cells.proofs.spaced.Spaced.push_behind.Goals as goal

pub returns-then-spaces-self : goal.returns-then-spaces-self
returns-then-spaces-self c =
    let n = c.args.self.now.spaces in
    let bytes = string_bytes c.args.self.now.text in
    c.in_ok-push_str.ensures.bytes ∙ ap (λ l. string_bytes c.args.out.now ++ l)
    (c.range_from.ensures.value ∙ (ap (λ l. drop (n - c.args.spaces) l) c.as_str-text.ensures.value ∙ last-spaces n bytes c.args.self.now.spaced c.args.spaces c.if-spaces-self.true))
