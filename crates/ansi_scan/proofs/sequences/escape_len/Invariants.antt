-- What is left gives the same answer from where the loop is, and each byte before it was read once.
use Rattle.std.proofs.Common.{◌≡◌, ◌+◌, drop}
use Rattle.ansi_scan.specs.Pieces.{escape_from}
use Rattle.ansi_scan.specs.Reads.{escape_reads}
use Rattle.ansi_scan.proofs.sequences.escape_len.Given as goal

abbrev pub invariant-loop-i : goal.invariant-loop-i
invariant-loop-i l =
    (escape_from l.i (drop l.i l.bytes) ≡ escape_from 0 l.bytes)
    × (l.i + escape_reads (drop l.i l.bytes) ≡ escape_reads l.bytes)
    × (l.tried ≡ l.fn.tried)
