use Rattle.std.proofs.Common.{rules, ◌≡◌, ◌+◌, ◌%◌, ◌^◌, refl, arith}
use Rattle.std.proofs.KnownBytes.{Consumes-trans}
use Rattle.tabled_output.specs.Counts.{pieces_read_of}
use Rattle.tabled_output.proofs.reading.read_to_end.Goals as goal

pub loop-init : goal.loop-init
loop-init g c =
    let below = c.args.reader.now.in_range in
    let here : pieces_read_of c.args.reader.now ≡ (pieces_read_of c.args.reader.now + 0) % 2 ^ 64 = omega (arith, below) in
    record { bytes = search rules; enough = omega arith; failures = refl; no_end = refl; only_reads = search rules; pieces_read = here }

-- the bytes so far, and those of the read whose piece found no memory
pub returns-in_err-extend_from_slice-clause-some_bytes :
    goal.returns-in_err-extend_from_slice-clause-some_bytes
returns-in_err-extend_from_slice-clause-some_bytes g c = (_, Consumes-trans _ _ _ _ _ c.loop.invariant.bytes c.in-Ok.ensures.bytes.0, search rules)
