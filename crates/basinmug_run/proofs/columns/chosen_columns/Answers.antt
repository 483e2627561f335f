-- The first name that is missing.
use Rattle.basinmug_columns.specs.Names.{number_of}
use Rattle.basinmug_run.specs.Columns.{missing_choice}
use Rattle.basinmug_run.proofs.PictureLemmas.Missing.{first-at}
use Rattle.basinmug_run.proofs.PictureLemmas.Narrowed.{err-told}
use Rattle.basinmug_run.proofs.columns.chosen_columns.Goals as goal

pub returns-in_err-first-clause-refused : goal.returns-in_err-first-clause-refused
returns-in_err-first-clause-refused c =
    err-told c.from_residual.result c.in_err-first.field-0.0 _ c.from_residual.ensures.1
    (first-at (missing_choice (number_of c.args.named.now) c.args.count) c.args.choices.now c.loop-choice.choice-index c.choice-item.result c.loop-choice-test.true c.choice-item.is c.loop-choice.invariant.named c.in_err-first.field-0.0 c.in_err-first.ensures.refused)
