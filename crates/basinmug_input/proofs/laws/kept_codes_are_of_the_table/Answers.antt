-- Each code is looked up.
use Rattle.std.proofs.Common.{refl}
use Rattle.basinmug_input.proofs.laws.kept_codes_are_of_the_table.Goals as goal

pub returns : goal.returns
returns c = refl
