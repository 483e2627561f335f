use Rattle.std.proofs.Common.{◌≡◌, List, ℕ, string_bytes, subst}
use Rattle.std.specs.Prelude.{IfOk}
use Rattle.ansi_scan.specs.Pieces.{pieces}
use Rattle.ansi_scan.proofs.Existence.{ArePiecesOf-pieces}
use Rattle.basinmug_columns.proofs.names.shown_text.Goals as goal

pub returns : goal.returns
returns c =
    let text = c.args.text.now in
    subst (λ (shown : List ℕ). IfOk c.into_owned.result (λ out. string_bytes out ≡ shown)) (c.in_ok-stripped.ensures.strips (pieces text) (ArePiecesOf-pieces text)) c.into_owned.ensures.ok
