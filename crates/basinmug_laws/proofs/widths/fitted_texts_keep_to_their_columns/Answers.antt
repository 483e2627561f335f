use Rattle.basinmug_laws.proofs.WidthLemmas.FittedWidths.{fitted-within}
use Rattle.basinmug_laws.proofs.widths.fitted_texts_keep_to_their_columns.Goals as goal

pub returns : goal.returns
returns c = fitted-within
