-- The lemmas of `Seams`.
use Rattle.ansi_str_search.proofs.TextLemmas.Seams.{ArePiecesOf-apart, ArePiecesOf-string}
use Rattle.ansi_str_search.proofs.text.laws.parted_at_an_escape.Goals as goal

pub returns-clause-apart : goal.returns-clause-apart
returns-clause-apart c = ArePiecesOf-apart

pub returns-clause-ended : goal.returns-clause-ended
returns-clause-ended c = ArePiecesOf-string
