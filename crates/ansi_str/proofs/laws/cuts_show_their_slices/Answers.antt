-- The lemmas of `WholeSlices` and `CutSlices`.
use Rattle.ansi_str.proofs.WholeSlices.{cut-shows, cut-closed, cut-strip}
use Rattle.ansi_str.proofs.CutSlices.{cut-slice}
use Rattle.ansi_str.proofs.laws.cuts_show_their_slices.Goals as goal

pub returns-clause-shown : goal.returns-clause-shown
returns-clause-shown c = λ text pieces of_cut a b order whole of_the_cut. record {
  shown = cut-shows text pieces of_cut a b order whole.of_text whole.none_broken of_the_cut;
  closed = cut-closed text pieces of_cut a b order whole.of_text whole.none_broken of_the_cut;
  stripped = cut-strip text pieces of_cut a b order whole.of_text whole.none_broken of_the_cut;
}

pub returns-clause-slice : goal.returns-clause-slice
returns-clause-slice c = λ text pieces of_cut a b order utf8 whole first last of_the_cut. cut-slice text pieces of_cut a b order utf8 whole.of_text whole.none_broken first last of_the_cut
