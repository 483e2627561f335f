-- A lemma of `AllUnits`.
use Rattle.tabled_size_wrap.proofs.AllUnits.{texts-units}
use Rattle.tabled_size_wrap.proofs.laws.units_make_up_the_line.Goals as goal

pub returns : goal.returns
returns c = texts-units
