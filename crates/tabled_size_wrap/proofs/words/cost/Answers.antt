-- Printable ASCII costs one column.
use Rattle.std.proofs.Common.{rules, ◌≤◌, sym, arith}
use Rattle.std.proofs.lemmas.Bool.Decides.{nat_tests}
use Rattle.tabled_size_wrap.proofs.AllUnits.{printable-cost}
use Rattle.tabled_size_wrap.proofs.words.cost.Goals as goal

pub returns-in-32-to-126 : goal.returns-in-32-to-126
returns-in-32-to-126 c =
    let low : 32 ≤ c.args.c = search rules in
    let high : c.args.c ≤ 126 = search rules in
    sym (printable-cost c.args.c (grind (arith, nat_tests)) (grind (arith, nat_tests)))
