use Rattle.std.proofs.Common.{false, true}
use Rattle.basinmug_laws.proofs.ShownLemmas.FittedTexts.{text-fitted}
use Rattle.basinmug_laws.proofs.ShownLemmas.WholeTexts.{field-cleaned, rows-cleaned, text-in_markdown}
use Rattle.basinmug_laws.proofs.shown.texts_stay_whole.Goals as goal

pub returns : goal.returns
returns c = record { cleaned = field-cleaned; markdown = text-in_markdown; cut = text-fitted true; wrapped = text-fitted false; rows = rows-cleaned }
