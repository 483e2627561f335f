use Rattle.ansi_scan.proofs.StyleLemmas.Lengths.{length-start_bytes, length-end_bytes}
use Rattle.ansi_scan.proofs.style.laws.bytes_are_few.Goals as goal

pub returns-clause-start : goal.returns-clause-start
returns-clause-start c = length-start_bytes

pub returns-clause-end : goal.returns-clause-end
returns-clause-end c = length-end_bytes
