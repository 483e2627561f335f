use Rattle.std.proofs.Common.{refl}
use Rattle.columns_asked.specs.DrawnTables.{asked_text}
use Rattle.columns_asked.proofs.Tables.{kept-styled, kept-whole}
use Rattle.columns_asked.proofs.laws.stored_table.Goals as goal

pub returns-clause-cells : goal.returns-clause-cells
returns-clause-cells c = kept-styled

pub returns-clause-whole : goal.returns-clause-whole
returns-clause-whole c = kept-whole

pub returns-clause-printed : goal.returns-clause-printed
unfolding asked_text
returns-clause-printed c = λ style asked texts. refl
