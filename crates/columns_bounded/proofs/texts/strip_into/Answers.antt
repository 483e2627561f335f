use Rattle.std.proofs.Common.{◌∙◌, ℕ, List, ap, length}
use Rattle.ansi_scan.specs.Pieces.{pieces}
use Rattle.ansi_scan.proofs.Existence.{ArePiecesOf-pieces}
use Rattle.ansi_str.specs.StyledText.{strip}
use Rattle.bounded_output.specs.Filled.{filled}
use Rattle.columns_bounded.proofs.texts.strip_into.Goals as goal

pub returns : goal.returns
returns c =
    let ok = c.in_ok-text.ensures.ok in
    let shown = c.in-Ok.ensures.strips (pieces c.in_ok-text.text.now) (ArePiecesOf-pieces c.in_ok-text.text.now) ∙ ap (λ (t : List ℕ). strip (pieces t)) ok.0 in (
      ok.1,
      c.len.ensures ∙ ap length shown,
      c.fill.ensures ∙ ap (filled c.args.out.now) (c.as_bytes.ensures.value ∙ (c.deref.ensures.value ∙ shown)),
    )
