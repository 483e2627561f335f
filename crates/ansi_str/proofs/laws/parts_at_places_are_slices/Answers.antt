-- The lemmas of `CutParts`.
use Rattle.ansi_str.proofs.CutParts.{first_part-slice, later_part-slice}
use Rattle.ansi_str.proofs.laws.parts_at_places_are_slices.Goals as goal

pub returns-clause-first : goal.returns-clause-first
returns-clause-first c = first_part-slice

pub returns-clause-later : goal.returns-clause-later
returns-clause-later c = λ text pieces a b order of_text. later_part-slice a b pieces order of_text.stand
