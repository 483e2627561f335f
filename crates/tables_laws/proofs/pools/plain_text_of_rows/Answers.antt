use Rattle.tables_laws.proofs.PoolsLemmas.Pools.{told-new}
use Rattle.tables_laws.proofs.pools.plain_text_of_rows.Goals as goal

pub returns : goal.returns
returns g c = λ whole. told-new _ whole _ c.in_ok-table.ensures.table c.to_string-text.result c.to_string-text.ensures.text
