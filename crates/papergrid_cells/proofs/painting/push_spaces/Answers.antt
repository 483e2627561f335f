use Rattle.std.proofs.Common.{◌++◌, ◌∙◌, ap, string_bytes}
use Rattle.papergrid_cells.proofs.PrintedGlyphs.{spaces-front}
use Rattle.papergrid_cells.proofs.painting.push_spaces.Goals as goal

pub returns : goal.returns
returns c =
    c.in_ok-push_str.ensures.bytes ∙ ap (λ l. string_bytes c.args.out.now ++ l)
    (c.range.ensures.value ∙ spaces-front c.args.spaces.now c.args.width c.requires.spaces c.requires.enough)
