use Rattle.tables_laws.proofs.ShownLemmas.NewLooks.{new-bare, new-closing, new-counts}
use Rattle.tables_laws.proofs.shown.new_looks_are_bare.Goals as goal

pub returns : goal.returns
returns c = record { bare = new-bare; closing = new-closing; ones = new-counts }
