use Rattle.std.proofs.Common.{refl}
use Rattle.std.specs.Fmt.{digits}
use Rattle.columns_laws.proofs.refusals.errors_by_hand.Goals as goal

pub returns : goal.returns
unfolding digits
returns c = record { read = refl; too_long = refl; no_text = refl; escape = refl; range = refl; too_wide = refl; write = refl; write_zero = refl; memory = refl }
