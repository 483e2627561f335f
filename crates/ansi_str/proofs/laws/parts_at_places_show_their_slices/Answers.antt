-- The lemmas of `WholeCuts` and `CutSlices`.
use Rattle.ansi_str.proofs.WholeCuts.{first_part-shows, first_part-closed, later_part-shows, later_part-closed, later_part-strip}
use Rattle.ansi_str.proofs.CutSlices.{later_part-slice_shown}
use Rattle.ansi_str.proofs.laws.parts_at_places_show_their_slices.Goals as goal

pub returns-clause-first : goal.returns-clause-first
returns-clause-first c = λ text pieces of_part b whole of_the_part. first_part-shows text pieces whole.of_text whole.none_broken b of_part of_the_part

pub returns-clause-first_closed : goal.returns-clause-first_closed
returns-clause-first_closed c = λ text pieces of_part b whole of_the_part. first_part-closed text pieces whole.of_text whole.none_broken b of_part of_the_part

pub returns-clause-later : goal.returns-clause-later
returns-clause-later c = λ text pieces of_part a b order whole of_the_part. record {
  shown = later_part-shows text pieces whole.of_text whole.none_broken a b order of_part of_the_part;
  closed = later_part-closed text pieces whole.of_text whole.none_broken a b order of_part of_the_part;
  stripped = later_part-strip text pieces whole.of_text whole.none_broken a b order of_part of_the_part;
}

pub returns-clause-later_slice : goal.returns-clause-later_slice
returns-clause-later_slice c = λ text pieces of_part a b order utf8 whole first last of_the_part. later_part-slice_shown text pieces of_part a b order utf8 whole.of_text whole.none_broken first last of_the_part
