-- Lemmas of `KeptPieces` and `KeptSlices`.
use Rattle.ansi_str.proofs.KeptPieces.{kept_shown, kept_sequences, kept_whole}
use Rattle.ansi_str.proofs.KeptSlices.{kept_slice}
use Rattle.ansi_str.proofs.laws.sequences_are_kept.Goals as goal

pub returns-clause-shown : goal.returns-clause-shown
returns-clause-shown c = λ a b text pieces left whole of_left. kept_shown a b text pieces left whole.of_text whole.none_broken of_left

pub returns-clause-sequences : goal.returns-clause-sequences
returns-clause-sequences c = λ a b text pieces left whole of_left. kept_sequences a b text pieces left whole.of_text whole.none_broken of_left

pub returns-clause-whole : goal.returns-clause-whole
returns-clause-whole c = λ a b text pieces left whole of_left. kept_whole a b text pieces left whole.of_text whole.none_broken of_left

pub returns-clause-slice : goal.returns-clause-slice
returns-clause-slice c = λ a b text pieces left order utf8 whole first last of_left. kept_slice a b text pieces left order utf8 whole.of_text whole.none_broken first last of_left
