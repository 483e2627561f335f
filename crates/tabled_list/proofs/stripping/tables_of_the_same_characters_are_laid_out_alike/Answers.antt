use Rattle.tabled_list.proofs.StrippingLemmas.StrippedRuns.{alike-end, same-end}
use Rattle.tabled_list.proofs.StrippingLemmas.StrippedTables.{same-bytes, same-grid, same-heights, same-widths}
use Rattle.tabled_list.proofs.stripping.tables_of_the_same_characters_are_laid_out_alike.Goals as goal

pub returns-clause-ends : goal.returns-clause-ends
returns-clause-ends c = λ settings a b m n no_escape whole_a whole_b alike to_m to_n. alike-end settings no_escape a b m n whole_a whole_b alike to_m to_n

pub returns-clause-texts : goal.returns-clause-texts
returns-clause-texts c = λ settings a b m n place no_escape whole_a whole_b alike to_m to_n same. same-end place settings no_escape a b m n whole_a whole_b alike to_m to_n same

pub returns-clause-widths : goal.returns-clause-widths
returns-clause-widths c = same-widths

pub returns-clause-heights : goal.returns-clause-heights
returns-clause-heights c = same-heights

pub returns-clause-places : goal.returns-clause-places
returns-clause-places c = same-grid

pub returns-clause-lines : goal.returns-clause-lines
returns-clause-lines c = λ a b cell k alike same. same-bytes a b alike cell k same
