use Rattle.std.proofs.Common.{◌≡◌, ◌+◌, ◌%◌, ◌^◌, ◌≤◌, length}
use Rattle.std.specs.Io.KnownBytes.{Consumes}
use Rattle.tabled_output.specs.Counts.{inner_of, failures_of, pieces_read_of, OnlyReads, TellsNoEnd}
use Rattle.tabled_output.proofs.reading.read_to_end.Given as goal

-- so far every read gave bytes, and `bytes` holds them all
abbrev pub invariant-loop : goal.invariant-loop
invariant-loop g l = record {
  bytes : Consumes (g.R.Read.remaining (inner_of l.initial.reader)) (g.R.Read.remaining (inner_of l.reader)) l.bytes.items;
  enough : l.counter ≤ length l.bytes.items;
  failures : failures_of l.reader ≡ failures_of l.initial.reader;
  no_end : TellsNoEnd l.initial.reader l.reader;
  only_reads : OnlyReads l.initial.reader l.reader;
  pieces_read : pieces_read_of l.reader ≡ (pieces_read_of l.initial.reader + l.counter) % 2 ^ 64;
}
