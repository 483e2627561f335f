use Rattle.std.proofs.Common.{refl}
use Rattle.ansi_scan.proofs.StyleLemmas.Table.{after_code-rows}
use Rattle.ansi_scan.proofs.style.laws.codes_follow_the_table.Goals as goal

pub returns-clause-codes : goal.returns-clause-codes
returns-clause-codes c = after_code-rows

pub returns-clause-clearing : goal.returns-clause-clearing
returns-clause-clearing c = refl
