use Rattle.columns_table.proofs.AskedWidths.{width-fitting, width-narrowed, width-unasked}
use Rattle.columns_table.proofs.laws.tables_take_the_width_that_is_asked.Goals as goal

pub returns-clause-narrowed : goal.returns-clause-narrowed
returns-clause-narrowed c = width-narrowed

pub returns-clause-natural : goal.returns-clause-natural
returns-clause-natural c = width-fitting

pub returns-clause-no_width : goal.returns-clause-no_width
returns-clause-no_width c = width-unasked
