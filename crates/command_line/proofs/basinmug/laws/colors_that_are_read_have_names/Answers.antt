use Rattle.command_line.proofs.BasinmugLemmas.ClosedColors.{read-named}
use Rattle.command_line.proofs.basinmug.laws.colors_that_are_read_have_names.Goals as goal

pub returns : goal.returns
returns c = read-named
