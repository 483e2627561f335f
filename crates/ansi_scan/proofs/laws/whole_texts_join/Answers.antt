-- The lemmas of `Joins`.
use Rattle.ansi_scan.proofs.Joins.{ArePiecesOf-append, IsWhole-append}
use Rattle.ansi_scan.proofs.laws.whole_texts_join.Goals as goal

pub returns-clause-joins : goal.returns-clause-joins
returns-clause-joins c = λ text other ps qs whole of_other. ArePiecesOf-append text other ps qs whole.of_text whole.none_broken of_other

pub returns-clause-whole : goal.returns-clause-whole
returns-clause-whole c = IsWhole-append
