use Rattle.tabled_pool.specs.Pools.{pool_of}
use Rattle.tables_laws.proofs.PoolsLemmas.Pools.{told-plain}
use Rattle.tables_laws.proofs.pools.plain_text.Goals as goal

pub returns : goal.returns
returns c = λ closing whole. told-plain (pool_of c.args.table.now) closing whole c.to_string.result c.to_string.ensures.text
