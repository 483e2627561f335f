use Rattle.std.proofs.Common.{subst, sym}
use Rattle.columns_bounded.proofs.Styles.{numbered-narrow}
use Rattle.program_options.specs.Columns.Settings.{settings_with}
use Rattle.columns_run.specs.Narrow.{HasNarrowGlyphs}
use Rattle.columns_bounded.proofs.request.style_numbered.Goals as goal

-- the style of each number is narrow
pub returns-clause-narrow : goal.returns-clause-narrow
returns-clause-narrow c =
    subst HasNarrowGlyphs (sym c.style_of.ensures) (subst (λ borders. HasNarrowGlyphs (settings_with borders)) (sym c.borders_numbered.ensures) (numbered-narrow c.args.number))
