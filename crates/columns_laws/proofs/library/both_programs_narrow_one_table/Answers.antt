use Rattle.columns_laws.proofs.LibraryLemmas.NarrowTexts.{cut-setting, wrapped-setting}
use Rattle.columns_laws.proofs.LibraryLemmas.TakenSteps.{cut-taken, wrap-taken}
use Rattle.columns_laws.proofs.library.both_programs_narrow_one_table.Goals as goal

pub returns : goal.returns
returns c = record {
  wrapped = λ wanted input width left is_width wraps did. wrapped-setting wanted input width is_width left wraps did;
  cut = λ wanted input width suffix limit try_color left is_width cuts none did. cut-setting wanted input width is_width left suffix limit try_color cuts none did;
  wrap_is_taken = λ wanted input width has. wrap-taken wanted input has width;
  cut_is_taken = λ wanted input width suffix limit try_color has. cut-taken wanted input has width suffix limit try_color;
}
