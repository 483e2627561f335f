use Rattle.basinmug_input.specs.Reading.{settings}
use Rattle.basinmug_input.proofs.OneFault.{one-fault}
use Rattle.basinmug_input.proofs.laws.texts_have_one_fault.Goals as goal

pub returns : goal.returns
returns c = λ escapes delimiter text one other. one-fault escapes (settings delimiter) text one other
