-- What the first four measure by the law of sums, and the others computed.
use Rattle.std.proofs.Common.{◌∷◌, [], refl}
use Rattle.unicode_width.proofs.Computing.{unicode_width}
use Rattle.tables_laws.proofs.CharactersLemmas.Sums.{measure-additive}
use Rattle.tables_laws.proofs.characters.additive_characters_by_hand.Goals as goal

pub returns-clause-acute : goal.returns-clause-acute
unfolding unicode_width
returns-clause-acute c = (measure-additive (0x65 ∷ 0x301 ∷ []) refl, refl)

pub returns-clause-ideographs : goal.returns-clause-ideographs
returns-clause-ideographs c = measure-additive (0x65e5 ∷ 0x672c ∷ []) refl

pub returns-clause-faces : goal.returns-clause-faces
returns-clause-faces c = measure-additive (0x2705 ∷ 0x20 ∷ 0x1f600 ∷ []) refl

pub returns-clause-hebrew : goal.returns-clause-hebrew
returns-clause-hebrew c = measure-additive (0x5e9 ∷ 0x5dc ∷ 0x5d5 ∷ 0x5dd ∷ []) refl

pub returns-clause-alef : goal.returns-clause-alef
unfolding unicode_width
returns-clause-alef c = (refl, refl, refl)

pub returns-clause-selector : goal.returns-clause-selector
unfolding unicode_width
returns-clause-selector c = (refl, refl, refl)

pub returns-clause-modifier : goal.returns-clause-modifier
unfolding unicode_width
returns-clause-modifier c = (refl, refl, refl)
