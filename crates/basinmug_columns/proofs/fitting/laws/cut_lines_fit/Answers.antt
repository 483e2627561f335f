use Rattle.basinmug_columns.proofs.FittingLemmas.Fits.{line-fits}
use Rattle.basinmug_columns.proofs.fitting.laws.cut_lines_fit.Goals as goal

pub returns : goal.returns
returns c = line-fits
