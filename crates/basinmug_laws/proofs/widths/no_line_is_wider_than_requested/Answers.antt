use Rattle.basinmug_laws.proofs.WidthLemmas.RunWidths.{lines-within}
use Rattle.basinmug_laws.proofs.widths.no_line_is_wider_than_requested.Goals as goal

pub returns : goal.returns
returns c = λ options kept width wider old new is closing texts table prints. lines-within options width is kept closing texts wider old new table prints
