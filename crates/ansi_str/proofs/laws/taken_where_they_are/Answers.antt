-- What is found is found where the test says so.
use Rattle.std.proofs.Common.{◌≡◌, length}
use Rattle.ansi_str.specs.StyledText.{strip}
use Rattle.ansi_str.specs.Searches.{BeginsWith, EndsWith}
use Rattle.ansi_str.specs.Keeping.{without_front, without_end}
use Rattle.ansi_str_search.proofs.Searches.{found_as_tested}
use Rattle.ansi_str.proofs.laws.taken_where_they_are.Goals as goal

pub returns-clause-prefix : goal.returns-clause-prefix
returns-clause-prefix c = λ prefix pieces begins found test taken.
    found_as_tested (BeginsWith prefix (strip pieces)) (λ left. left ≡ without_front (length prefix) pieces) found begins test taken

pub returns-clause-suffix : goal.returns-clause-suffix
returns-clause-suffix c = λ suffix pieces ends found test taken.
    found_as_tested (EndsWith suffix (strip pieces)) (λ left. left ≡ without_end (length suffix) pieces) found ends test taken
