-- The reader gave the bytes so far, by which so much is known of the first line; each read gave some.
use Rattle.std.proofs.Common.{◌≡◌, ◌+◌, ◌%◌, ◌^◌, ◌≤◌, length}
use Rattle.std.specs.Io.KnownBytes.{Consumes}
use Rattle.tabled_output.specs.Counts.{OnlyReads, failures_of, inner_of, pieces_read_of}
use Rattle.basinmug_delimiter.specs.FirstLines.{IsKnownOf}
use Rattle.basinmug_head.proofs.front.read_front.Given as goal

abbrev pub invariant-loop-reads : goal.invariant-loop-reads
invariant-loop-reads g l = record {
  consumed : Consumes (g.R.Read.remaining (inner_of l.initial.reader)) (g.R.Read.remaining (inner_of l.reader)) l.bytes.items;
  enough : l.reads ≤ length l.bytes.items;
  pieces_read : pieces_read_of l.reader ≡ (pieces_read_of l.initial.reader + l.reads) % 2 ^ 64;
  known : IsKnownOf l.bytes.items l.line;
  failures : failures_of l.reader ≡ failures_of l.initial.reader;
  only_reads : OnlyReads l.initial.reader l.reader;
}
