-- A byte of the string is one read more.
use Rattle.std.proofs.Common.{◌≡◌, ◌∙◌, sym, true, get_or, arith}
use Rattle.std.proofs.lemmas.Bool.Decides.{nat_tests}
use Rattle.ansi_scan.specs.Pieces.{is_in_string}
use Rattle.ansi_scan.proofs.ByteReads.{string_from-step, string_reads-step}
use Rattle.ansi_scan.proofs.sequences.string_len.Goals as goal

pub loop-i-preserved : goal.loop-i-preserved
loop-i-preserved c =
    let inside : is_in_string c.args.bell_ends (get_or c.args.bytes.now c.loop-i.i 0) ≡ true = grind (arith, nat_tests) in (
      sym (string_from-step c.args.bell_ends c.args.bytes.now c.loop-i.i c.loop-i-test.true inside) ∙ c.loop-i.invariant.0,
      omega (arith, c.loop-i.invariant.1, string_reads-step c.args.bell_ends c.args.bytes.now c.loop-i.i c.loop-i-test.true inside),
      c.loop-i.invariant.2,
    )
