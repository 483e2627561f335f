-- Of the two bytes before a control sequence each is read once.
use Rattle.std.proofs.Common.{◌+◌, drop, arith}
use Rattle.ansi_scan.proofs.ByteReads.{piece_reads-more}
use Rattle.ansi_scan.proofs.sequences.sequence.Goals as goal

pub returns-in_ok-kind-in-91-clause-plain : goal.returns-in_ok-kind-in-91-clause-plain
returns-in_ok-kind-in-91-clause-plain c =
    let behind = drop (c.in_ok-kind-in-91.len + 2) c.args.bytes.now in
    omega (arith, c.in_ok-kind-in-91.ensures.plain behind, piece_reads-more c.in_ok-kind-in-91.kind c.in_ok-kind-in-91.len 2 behind)
