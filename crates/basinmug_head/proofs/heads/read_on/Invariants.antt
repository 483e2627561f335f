-- The reader gave these bytes after those that were there, some at each read, and all are walked over.
use Rattle.std.proofs.Common.{◌≡◌, ◌≤◌, ◌+◌, ◌%◌, ◌^◌, ◌++◌, List, ℕ, length}
use Rattle.std.specs.Io.KnownBytes.{Consumes}
use Rattle.tabled_output.specs.Counts.{OnlyReads, failures_of, inner_of, pieces_read_of}
use Rattle.basinmug_head.specs.Walking.{IsWalked}
use Rattle.basinmug_head.proofs.heads.read_on.Given as goal

abbrev pub invariant-loop : goal.invariant-loop
invariant-loop g l = record {
  more : List ℕ;
  consumed : Consumes (g.R.Read.remaining (inner_of l.initial.reader)) (g.R.Read.remaining (inner_of l.reader)) more;
  enough : l.counter ≤ length more;
  pieces_read : pieces_read_of l.reader ≡ (pieces_read_of l.initial.reader + l.counter) % 2 ^ 64;
  grown : l.bytes.items ≡ l.fn.bytes.items ++ more;
  found : l.walk.found ≡ l.fn.walk.found;
  within : l.fn.walk.found.start ≤ length l.bytes.items;
  walked : (records : ℕ) → IsWalked l.fn.walk.found records l.fn.bytes.items l.fn.walk → IsWalked l.fn.walk.found records l.bytes.items l.walk;
  failures : failures_of l.reader ≡ failures_of l.initial.reader;
  only_reads : OnlyReads l.initial.reader l.reader;
}
