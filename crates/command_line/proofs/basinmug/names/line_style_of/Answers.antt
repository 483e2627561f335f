use Rattle.std.proofs.Common.{◌∷◌, [], sym, codes}
use Rattle.program_options.proofs.ColorListLemmas.NotNamed.{apart}
use Rattle.program_options.specs.declared.basinmug.LineStyle.TheVariants.{Rounded, Modern, Ascii, Extended, Markdown, Empty}
use Rattle.command_line.proofs.BasinmugLemmas.NotNamed.{first_or_none}
use Rattle.command_line.proofs.basinmug.names.line_style_of.Goals as goal

pub returns-in_default : goal.returns-in_default
returns-in_default c =
    let d = c.in_default in
    let name = c.args.name.now in
    let others = (codes "modern", Modern) ∷ (codes "ascii", Ascii) ∷ (codes "extended", Extended) ∷ (codes "markdown", Markdown) ∷ (codes "empty", Empty) ∷ [] in
    sym (first_or_none (codes "rounded") Rounded others name (
      apart name (codes "modern") d.not-modern,
      (
        apart name (codes "ascii") d.not-ascii,
        (apart name (codes "extended") d.not-extended, (apart name (codes "markdown") d.not-markdown, (apart name (codes "empty") d.not-empty, tt))),
      ),
    ))
