use Rattle.ansi_scan.specs.Styles.Style.{attributes_of}
use Rattle.ansi_scan.proofs.StyleLemmas.Kept.{IsRendition-values_after}
use Rattle.ansi_scan.proofs.style.style.Style.after_other_code.Goals as goal

pub invariant_of-result : goal.invariant_of-result
invariant_of-result c =
    IsRendition-values_after (attributes_of c.self.inside) _ c.args.code c.self.invariant
    c.font_after.ensures c.foreground_after.ensures c.background_after.ensures c.underline_color_after.ensures
