-- What is left gives the same answer from where the loop is, and each byte before it was read once.
use Rattle.std.proofs.Common.{◌≡◌, ◌+◌, drop}
use Rattle.ansi_scan.specs.Pieces.{string_from}
use Rattle.ansi_scan.specs.Reads.{string_reads}
use Rattle.ansi_scan.proofs.sequences.string_len.Given as goal

abbrev pub invariant-loop-i : goal.invariant-loop-i
invariant-loop-i l =
    (string_from l.i l.bell_ends (drop l.i l.bytes) ≡ string_from 0 l.bell_ends l.bytes)
    × (l.i + string_reads l.bell_ends (drop l.i l.bytes) ≡ string_reads l.bell_ends l.bytes)
    × (l.tried ≡ l.fn.tried)
