use Rattle.tables_laws.proofs.PoolsLemmas.Pools.{begun-closing, rows_nesting-whole}
use Rattle.tables_laws.proofs.pools.new_pools_are_closing.Goals as goal

pub returns : goal.returns
returns c = record { look = begun-closing; nesting = rows_nesting-whole }
