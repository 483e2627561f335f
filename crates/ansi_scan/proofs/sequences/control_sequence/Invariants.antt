-- What is left gives the same answer from where the loop is, and each byte before it was read once.
use Rattle.std.proofs.Common.{◌≡◌, ◌+◌, drop, true}
use Rattle.ansi_scan.specs.Pieces.{control_from}
use Rattle.ansi_scan.specs.Reads.{control_reads}
use Rattle.ansi_scan.proofs.ByteReads.{control_reads_from}
use Rattle.ansi_scan.proofs.sequences.control_sequence.Given as goal

abbrev pub invariant-loop-i : goal.invariant-loop-i
invariant-loop-i l =
    (control_from l.i l.numeric l.parameters (drop l.i l.bytes) ≡ control_from 0 true true l.bytes)
    × (l.i + control_reads_from l.parameters (drop l.i l.bytes) ≡ control_reads l.bytes)
    × (l.tried ≡ l.fn.tried)
