-- The lemmas of `StdSplits` and `MatchLists`.
use Rattle.std.proofs.Common.{[], ◌∷◌, refl}
use Rattle.ansi_str_search.specs.PartsLeft.{first_match}
use Rattle.ansi_str_search.proofs.MatchLists.{matches_from, AreMatches-worked}
use Rattle.ansi_str_search.proofs.StdSplits as std_splits
use Rattle.ansi_str_search.proofs.laws.split_as_std.Goals as goal

pub returns-clause-parts : goal.returns-clause-parts
returns-clause-parts c = std_splits.split_as_std

pub returns-clause-worked : goal.returns-clause-worked
returns-clause-worked c = refl

pub returns-clause-empty_pattern : goal.returns-clause-empty_pattern
returns-clause-empty_pattern c = refl

pub returns-clause-empty_text : goal.returns-clause-empty_text
unfolding matches_from first_match
returns-clause-empty_text c = AreMatches-worked [] [] (0 ∷ []) refl

pub returns-clause-two_empty_parts : goal.returns-clause-two_empty_parts
returns-clause-two_empty_parts c = refl
