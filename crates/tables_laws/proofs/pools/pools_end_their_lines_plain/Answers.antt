use Rattle.tables_laws.proofs.PoolsLemmas.Pools.{lines-closed, text-plain, text_lines-are_lines}
use Rattle.tables_laws.proofs.pools.pools_end_their_lines_plain.Goals as goal

pub returns : goal.returns
returns c = record { plain = text-plain; closed = lines-closed; lines = text_lines-are_lines }
