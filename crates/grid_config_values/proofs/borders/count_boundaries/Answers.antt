use Rattle.std.proofs.Common.{arith}
use Rattle.std.proofs.lemmas.Bool.Decides.{nat_tests}
use Rattle.grid_config_values.proofs.Boundaries.{counted}
use Rattle.grid_config_values.proofs.borders.count_boundaries.Goals as goal

pub returns-then-n-eq0 : goal.returns-then-n-eq0
returns-then-n-eq0 c is_there first between last = grind (arith, nat_tests, c.count_if.ensures)

pub returns : goal.returns
returns c is_there first between last = grind (arith, counted is_there c.args.n, c.count_if-2.ensures, c.count_if-3.ensures, c.count_if-4.ensures)
