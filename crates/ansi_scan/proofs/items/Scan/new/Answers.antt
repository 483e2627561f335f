-- All reads are three at most for each byte.
use Rattle.std.proofs.Common.{arith}
use Rattle.ansi_scan.proofs.ByteReads.{reads_over-few}
use Rattle.ansi_scan.proofs.items.Scan.new.Goals as goal

pub invariant_of-result-clause-few : goal.invariant_of-result-clause-few
invariant_of-result-clause-few c = omega (arith, reads_over-few c.args.bytes.now)
