use Rattle.std.proofs.Common.{arith}
use Rattle.std.proofs.lemmas.Simd.{Each1-get_or}
use Rattle.columns_run.proofs.Lanes.{bit-none}
use Rattle.columns_run.proofs.printable_cells.others_in.Goals as goal

pub returns : goal.returns
returns c k below none =
    let fits = Each1-get_or _ c.args.lanes k 0 (omega (arith, below, c.fits-lanes.0)) c.fits-lanes.1 in
    bit-none 64 (omega arith) c.args.lanes c.fits-lanes.0 k below fits.fits none
