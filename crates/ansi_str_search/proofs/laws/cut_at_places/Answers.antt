-- The lemmas of `PiecesAtPlaces`.
use Rattle.ansi_str_search.proofs.PiecesAtPlaces.{joined-places, strip-from, ArePiecesOf-from}
use Rattle.ansi_str_search.proofs.laws.cut_at_places.Goals as goal

pub returns-clause-joined : goal.returns-clause-joined
returns-clause-joined c = joined-places

pub returns-clause-pieces : goal.returns-clause-pieces
returns-clause-pieces c = ArePiecesOf-from

pub returns-clause-strip : goal.returns-clause-strip
returns-clause-strip c = strip-from
