use Rattle.tabled_pool.specs.contracts.table.PoolTableOrd.TheImpl.Laws as laws
use Rattle.tabled_pool.proofs.Equality.{table_order}
use Rattle.tabled_pool.proofs.laws.tables_are_ordered.Goals as goal

pub returns-clause-order : goal.returns-clause-order
returns-clause-order c = table_order

pub returns-clause-partial : goal.returns-clause-partial
returns-clause-partial c = λ a b. laws.matches_partial_cmp-law a b

pub returns-clause-total : goal.returns-clause-total
returns-clause-total c = laws.total-law
