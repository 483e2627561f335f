use Rattle.std.proofs.Common.{arith}
use Rattle.std.proofs.lemmas.Simd.{Each1-get_or}
use Rattle.columns_run.proofs.Lanes.{bit-here, bit-past}
use Rattle.columns_run.proofs.printable_end.others_in.Goals as goal

pub returns-clause-bits : goal.returns-clause-bits
returns-clause-bits c k below =
    let fits = Each1-get_or _ c.args.lanes k 0 (omega (arith, below, c.fits-lanes.0)) c.fits-lanes.1 in
    bit-here 16 (omega arith) c.args.lanes c.fits-lanes.0 k below fits.fits

pub returns-clause-few : goal.returns-clause-few
returns-clause-few c k high = bit-past 16 (omega arith) c.args.lanes c.fits-lanes.0 k high
