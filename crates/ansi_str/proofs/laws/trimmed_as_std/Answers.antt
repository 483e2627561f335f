-- What is kept shows what `trim` leaves.
use Rattle.std.proofs.Common.{◌∙◌, subst}
use Rattle.ansi_scan.specs.Sequences.{ArePiecesOf}
use Rattle.ansi_str.specs.StyledText.{strip}
use Rattle.ansi_str.proofs.KeptPieces.{kept_shown}
use Rattle.ansi_str.proofs.Trims.{by_places}
use Rattle.ansi_str.proofs.laws.trimmed_as_std.Goals as goal

pub returns : goal.returns
returns c = λ text bytes pieces left whole trimmed of_left.
    kept_shown trimmed.0 trimmed.1 text pieces left whole.of_text whole.none_broken (subst (λ bs. ArePiecesOf bs left) trimmed.3 of_left) ∙ (by_places (strip pieces) trimmed.0 trimmed.1 trimmed.2).left
