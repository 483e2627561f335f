use Rattle.tabled_size_wrap.proofs.CellsLemmas.Bridges.{resized-shows}
use Rattle.tabled_size_wrap.proofs.cells.resized_texts_show_resized_cells.Goals as goal

pub returns-clause-shown : goal.returns-clause-shown
returns-clause-shown c = λ resize text whole. (resized-shows resize text whole).shown

pub returns-clause-whole : goal.returns-clause-whole
returns-clause-whole c = λ resize text whole. (resized-shows resize text whole).whole
