-- Numbers are written digit by digit.
use Rattle.std.specs.Fmt.{digits}
use Rattle.std.proofs.Common.{refl}
use Rattle.tables_laws.proofs.by_hand.errors_by_hand.Goals as goal

pub returns-clause-room : goal.returns-clause-room
unfolding digits
returns-clause-room c = refl

pub returns-clause-table : goal.returns-clause-table
unfolding digits
returns-clause-table c = refl
