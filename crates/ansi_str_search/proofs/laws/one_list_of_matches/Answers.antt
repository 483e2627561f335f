-- The lemmas of `MatchLists`.
use Rattle.std.specs.Prelude.{codes}
use Rattle.std.proofs.Common.{suc, [], ◌∷◌, length, refl}
use Rattle.ansi_str_search.specs.PartsLeft.{first_match}
use Rattle.ansi_str_search.proofs.MatchLists.{matches_from, AreMatches-found, AreMatches-unique, AreMatches-worked}
use Rattle.ansi_str_search.proofs.laws.one_list_of_matches.Goals as goal

pub returns-clause-there : goal.returns-clause-there
returns-clause-there c = λ pattern text. (matches_from (suc (length text)) pattern text 0, AreMatches-found pattern text)

pub returns-clause-one : goal.returns-clause-one
returns-clause-one c = AreMatches-unique

pub returns-clause-apart : goal.returns-clause-apart
unfolding matches_from first_match
returns-clause-apart c = AreMatches-worked (codes "aa") (codes "aaaaa") (0 ∷ 2 ∷ []) refl

pub returns-clause-everywhere : goal.returns-clause-everywhere
unfolding matches_from first_match
returns-clause-everywhere c = AreMatches-worked [] (0xc3 ∷ 0xa9 ∷ codes "a") (0 ∷ 2 ∷ 3 ∷ []) refl
