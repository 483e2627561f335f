use Rattle.ansi_scan.proofs.StyleLemmas.Effects.{start_bytes-sequences, start_sequences_are_read, end_bytes-sequences, end_sequences_are_read}
use Rattle.ansi_scan.proofs.style.laws.bytes_are_sequences.Goals as goal

pub returns-clause-start : goal.returns-clause-start
returns-clause-start c = start_bytes-sequences

pub returns-clause-start_read : goal.returns-clause-start_read
returns-clause-start_read c = start_sequences_are_read

pub returns-clause-end : goal.returns-clause-end
returns-clause-end c = end_bytes-sequences

pub returns-clause-end_read : goal.returns-clause-end_read
returns-clause-end_read c = end_sequences_are_read
