-- How texts are cut, by what a cut is made of.
use Rattle.tabled_width_texts.specs.declared.cutting.SuffixedCut.{SuffixedCut as MeasuredCut}
use Rattle.tabled_width_texts.specs.Cutting.{SuffixedCut}

abbrev pub suffixed_cut_of : MeasuredCut → SuffixedCut
suffixed_cut_of cut = record { suffix = cut.suffix.now; limit = cut.limit; multiline = cut.multiline; try_color = cut.try_color }
