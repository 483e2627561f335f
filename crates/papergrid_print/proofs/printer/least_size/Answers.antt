use Rattle.std.proofs.Common.{◌≤◌, ◌+◌, arith}
use Rattle.std.proofs.lemmas.Nat.{mul-le}
use Rattle.papergrid_print.proofs.printer.least_size.Goals as goal

pub returns : goal.returns
returns c =
    let same : c.args.lines ≤ c.args.lines = omega arith in
    let wide : c.saturating_add.result ≤ c.args.width + 1 = omega (arith, c.saturating_add.ensures) in
    omega (arith, c.saturating_mul.ensures, c.saturating_sub.ensures, mul-le c.args.lines c.saturating_add.result c.args.lines (c.args.width + 1) same wide)
