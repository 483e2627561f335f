use Rattle.std.proofs.Common.{arith, nat_cmp}
use Rattle.std.proofs.lemmas.Bool.Decides.{nat_tests}
use Rattle.std.proofs.lemmas.Cmp.{nat_cmp_total}
use Rattle.grid_config_values.proofs.Kept.{found_there}
use Rattle.grid_config_values.proofs.numbered.found_line.Goals as goal

pub returns-in-Some-get : goal.returns-in-Some-get
returns-in-Some-get g c =
    let there = c.in-Some-get.ensures.lookup in
    found_there nat_cmp nat_cmp_total c.args.lines.now c.args.line _ c.in-Some-get.one.now there.3.0 there.1 (grind (arith, nat_tests, c.if-one-line.true))
