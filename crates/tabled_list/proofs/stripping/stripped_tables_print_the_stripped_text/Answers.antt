use Rattle.std.proofs.Common.{length, subst, sym}
use Rattle.tabled_steps.specs.States.{column_count}
use Rattle.tabled_list.specs.Stripping.Printing.{SpansAreGood, drawn_frame}
use Rattle.tabled_list.proofs.StrippingLemmas.StrippedTables.{fit-stripped, one-answer, printed-stripped, printed-uncolored, strips-same, total_height-stripped, total_width-stripped}
use Rattle.tabled_list.proofs.stripping.stripped_tables_print_the_stripped_text.Goals as goal

pub returns-clause-text : goal.returns-clause-text
returns-clause-text c = printed-stripped

pub returns-clause-both : goal.returns-clause-both
returns-clause-both c = strips-same

pub returns-clause-no_colors : goal.returns-clause-no_colors
returns-clause-no_colors c = printed-uncolored

pub returns-clause-fits : goal.returns-clause-fits
returns-clause-fits c = λ s answer. let same = fit-stripped s answer in (subst (λ (T : Type 0). T) same, subst (λ (T : Type 0). T) (sym same))

pub returns-clause-one : goal.returns-clause-one
returns-clause-one c = λ s. one-answer (drawn_frame s) s.rows (SpansAreGood s.look.extent (length s.rows) (column_count s.rows))

pub returns-clause-width : goal.returns-clause-width
returns-clause-width c = total_width-stripped

pub returns-clause-height : goal.returns-clause-height
returns-clause-height c = total_height-stripped
