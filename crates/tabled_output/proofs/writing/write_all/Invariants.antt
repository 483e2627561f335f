use Rattle.std.proofs.Common.{◌≡◌, length}
use Rattle.tabled_output.specs.Counts.{inner_of, failures_of, empty_writes_of, OnlyWrites}
use Rattle.tabled_output.proofs.Written.{HasWritten}
use Rattle.tabled_output.proofs.writing.write_all.Given as goal

-- so far every write took bytes, and `rest` is what the writer has still to take
abbrev pub invariant-loop-rest : goal.invariant-loop-rest
invariant-loop-rest g l = record {
  written : HasWritten (g.W.Write.contents (inner_of l.initial.writer)) (g.W.Write.contents (inner_of l.writer)) l.bytes l.rest;
  failures : failures_of l.writer ≡ failures_of l.initial.writer;
  empty_writes : empty_writes_of l.writer ≡ empty_writes_of l.initial.writer;
  only_writes : OnlyWrites l.initial.writer l.writer;
  nothing : length l.bytes ≡ 0 → (l.writer ≡ l.initial.writer) × (length l.rest ≡ 0);
}

abbrev pub decreases-loop-rest : goal.decreases-loop-rest
decreases-loop-rest g l = length l.rest
