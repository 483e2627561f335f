-- The function makes pieces of every text, and there are no others.
use Rattle.ansi_scan.specs.Pieces.{pieces}
use Rattle.ansi_scan.proofs.Existence.{ArePiecesOf-pieces}
use Rattle.ansi_scan.proofs.Uniqueness.{ArePiecesOf-unique}
use Rattle.ansi_scan.proofs.laws.one_list.Goals as goal

pub returns-clause-exists : goal.returns-clause-exists
returns-clause-exists c = λ text. (pieces text, ArePiecesOf-pieces text)

pub returns-clause-unique : goal.returns-clause-unique
returns-clause-unique c = ArePiecesOf-unique

pub returns-clause-computed : goal.returns-clause-computed
returns-clause-computed c = ArePiecesOf-pieces
