use Rattle.std.proofs.Common.{arith}
use Rattle.std.proofs.lemmas.Bool.Decides.{nat_tests}
use Rattle.grid_config_values.proofs.Rectangles.{all_places}
use Rattle.grid_config_values.proofs.entity_iterator.EntityIterator.new.Goals as goal
use Rattle.grid_config_values.proofs.entity_iterator.EntityIterator.new.Goals.{then-cols, else-cols}

pub returns : goal.returns
returns c = all_places c.args.rows c.args.cols c.if-cols.result (elim c.if-cols.branch [ then-cols w ↦ grind (arith, nat_tests) | else-cols w ↦ grind (arith, nat_tests) ])
