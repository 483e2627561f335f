-- A lemma of `CutParts`.
use Rattle.ansi_str.proofs.CutParts.{cut_part-slice}
use Rattle.ansi_str.proofs.laws.cuts_are_slices.Goals as goal

pub returns : goal.returns
returns c = cut_part-slice
