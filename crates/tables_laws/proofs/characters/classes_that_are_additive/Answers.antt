use Rattle.std.proofs.Common.{refl}
use Rattle.tables_laws.proofs.CharactersLemmas.Classes.{plain-spacing, simple-additive, simple-columns}
use Rattle.tables_laws.proofs.characters.classes_that_are_additive.Goals as goal

pub returns : goal.returns
returns c = record { plain = plain-spacing; simple = simple-additive; takes = simple-columns; mark = refl; ellipsis = refl }
