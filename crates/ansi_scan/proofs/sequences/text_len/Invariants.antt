-- What is left gives the same answer from where the loop is.
use Rattle.std.proofs.Common.{◌≡◌, ◌+◌, drop}
use Rattle.ansi_scan.specs.Pieces.{text_len}
use Rattle.ansi_scan.proofs.sequences.text_len.Given as goal

abbrev pub invariant-loop-i : goal.invariant-loop-i
invariant-loop-i l = l.i + text_len (drop l.i l.bytes) ≡ text_len l.bytes
