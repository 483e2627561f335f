use Rattle.std.proofs.Common.{◌∙◌, ap}
use Rattle.ansi_scan.specs.Styles.Rendition.{sgr_parameters}
use Rattle.ansi_scan.proofs.StyleLemmas.Effects.{applied-other}
use Rattle.ansi_scan.proofs.StyleLemmas.Forms.{sequence_from-sgr_parameters}
use Rattle.ansi_scan.proofs.StyleLemmas.Reading.{sgr_parameters-sequence}
use Rattle.ansi_scan.proofs.style.laws.sequence_form.Goals as goal

pub returns-clause-form : goal.returns-clause-form
returns-clause-form c =
    λ bytes parameters. (
      sequence_from-sgr_parameters bytes parameters,
      λ form. ap sgr_parameters form.0 ∙ sgr_parameters-sequence parameters form.1,
    )

pub returns-clause-other : goal.returns-clause-other
returns-clause-other c = applied-other
