use Rattle.tabled_size_wrap.proofs.CellsLemmas.Resized.{resized-meets, resized-one, texts-resized}
use Rattle.tabled_size_wrap.proofs.cells.resized_cells_are_longest_fronts_and_runs.Goals as goal

pub returns-clause-meets : goal.returns-clause-meets
returns-clause-meets g c = λ character bare. resized-meets character bare

pub returns-clause-one : goal.returns-clause-one
returns-clause-one g c = λ character bare. resized-one character bare

pub returns-clause-texts : goal.returns-clause-texts
returns-clause-texts g c = texts-resized
