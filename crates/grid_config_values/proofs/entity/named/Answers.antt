use Rattle.std.proofs.Common.{arith}
use Rattle.std.proofs.lemmas.Bool.Decides.{nat_tests}
use Rattle.std.specs.List.{range_with_len}
use Rattle.grid_config_values.proofs.Rectangles.{filter_all, filter_one}
use Rattle.grid_config_values.proofs.entity.named.Goals as goal

pub returns-in-None : goal.returns-in-None
returns-in-None c = grind (arith, c.in-None.is, filter_all (range_with_len 0 c.args.count))

pub returns-in-Some : goal.returns-in-Some
returns-in-Some c = grind (arith, nat_tests, c.in-Some.is, filter_one c.in-Some.index 0 c.args.count)

pub returns-in-Some-2 : goal.returns-in-Some-2
returns-in-Some-2 c = grind (arith, nat_tests, c.in-Some.is, filter_one c.in-Some.index 0 c.args.count)
