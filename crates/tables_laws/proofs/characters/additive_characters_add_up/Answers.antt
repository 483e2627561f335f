use Rattle.tables_laws.proofs.CharactersLemmas.Steps.{columns-few, own-additive}
use Rattle.tables_laws.proofs.CharactersLemmas.Sums.{cost-spacing, measure-additive, measure-parts}
use Rattle.tables_laws.proofs.characters.additive_characters_add_up.Goals as goal

pub returns : goal.returns
returns c = record { own = own-additive; few = columns-few; sum = measure-additive; parts = measure-parts; costs = cost-spacing }
