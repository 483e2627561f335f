use Rattle.bounded_output.proofs.Helds.{more-taken, same-limit, same-memory, same-name}
use Rattle.bounded_output.proofs.laws.writers_take_what_is_written.Goals as goal

pub returns-clause-name : goal.returns-clause-name
returns-clause-name c = same-name

pub returns-clause-limit : goal.returns-clause-limit
returns-clause-limit c = same-limit

pub returns-clause-memory : goal.returns-clause-memory
returns-clause-memory c = same-memory

pub returns-clause-taken : goal.returns-clause-taken
returns-clause-taken c = more-taken
