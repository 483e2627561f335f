-- What is known already.
use Rattle.std.proofs.Common.{subst, Option}
use Rattle.basinmug_cells.specs.Views.{view_rows}
use Rattle.basinmug_run.specs.Picture.Known.{AreKnown}
use Rattle.basinmug_run.specs.declared.picture.facts.ColumnFacts.{ColumnFacts}
use Rattle.basinmug_run.proofs.picture.facts.known_or_found.Goals as goal

pub returns-in-Some : goal.returns-in-Some
returns-in-Some c = subst (λ (it : Option ColumnFacts). AreKnown c.args.header (view_rows c.args.rows) it) c.in-Some.is c.requires
