use Rattle.tabled_size_wrap.proofs.CellsLemmas.Characters.{resized-natural, same}
use Rattle.tabled_size_wrap.proofs.CellsLemmas.CellStripping.{resized-characters}
use Rattle.papergrid_picture.specs.Shown.{character_of, in_plain}
use Rattle.tabled_size_wrap.proofs.cells.cells_are_resized_by_characters.Goals as goal

pub returns-clause-cells : goal.returns-clause-cells
returns-clause-cells c = resized-natural character_of same in_plain

pub returns-clause-texts : goal.returns-clause-texts
returns-clause-texts c = resized-characters
