use Rattle.basinmug_delimiter.proofs.Renditions.{rendition-form, rendition-found}
use Rattle.basinmug_delimiter.proofs.laws.sequences_are_renditions.Goals as goal

pub returns : goal.returns
returns c = record { found = rendition-form; all = rendition-found }
