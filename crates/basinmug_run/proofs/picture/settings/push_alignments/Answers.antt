-- The first name that is missing.
use Rattle.basinmug_columns.specs.Names.{number_of}
use Rattle.basinmug_run.specs.Picture.Names.{text_if_missing}
use Rattle.basinmug_run.proofs.PictureLemmas.Missing.{first-at}
use Rattle.basinmug_run.proofs.PictureLemmas.Narrowed.{err-told}
use Rattle.basinmug_run.proofs.picture.settings.push_alignments.Goals as goal

pub returns-in_err-column-clause-refused : goal.returns-in_err-column-clause-refused
returns-in_err-column-clause-refused c =
    err-told c.from_residual.result c.in_err-column.field-0.0 _ c.from_residual.ensures.1
    (first-at (λ pair. text_if_missing (number_of c.args.columns.now pair.0) pair.0) c.args.pairs.now c.loop-name.name-index c.loop-name-item.result c.loop-name-test.true c.loop-name-item.is c.loop-name.invariant.named c.in_err-column.field-0.0 c.in_err-column.ensures.refused)
