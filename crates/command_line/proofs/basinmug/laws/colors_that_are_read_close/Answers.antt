use Rattle.command_line.proofs.BasinmugLemmas.ClosedColors.{read-closes}
use Rattle.command_line.proofs.basinmug.laws.colors_that_are_read_close.Goals as goal

pub returns : goal.returns
returns c = read-closes
