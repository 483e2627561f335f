use Rattle.ansi_scan.proofs.StyleLemmas.Effects.{start_from_plain, start_from_itself}
use Rattle.ansi_scan.proofs.style.laws.start_reads_as_its_style.Goals as goal

pub returns-clause-from_plain : goal.returns-clause-from_plain
returns-clause-from_plain c = start_from_plain

pub returns-clause-from_itself : goal.returns-clause-from_itself
returns-clause-from_itself c = start_from_itself
