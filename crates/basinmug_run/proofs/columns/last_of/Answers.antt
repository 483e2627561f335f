-- One more value, and the first name that is missing.
use Rattle.std.proofs.Common.{refl}
use Rattle.basinmug_columns.specs.Names.{number_of}
use Rattle.basinmug_run.specs.Picture.Names.{text_if_missing}
use Rattle.basinmug_run.proofs.GivenValues.{put-more}
use Rattle.basinmug_run.proofs.PictureLemmas.Missing.{first-at, none-more}
use Rattle.basinmug_run.proofs.PictureLemmas.Narrowed.{err-told}
use Rattle.basinmug_run.proofs.columns.last_of.Goals as goal

pub returns-in_err-number-clause-refused : goal.returns-in_err-number-clause-refused
returns-in_err-number-clause-refused g c =
    err-told c.from_residual.result c.in_err-number.field-0.0 _ c.from_residual.ensures.1
    (first-at (λ pair. text_if_missing (number_of c.args.named.now pair.0) pair.0) c.args.pairs.now c.loop-name.name-index c.loop-name-item.result c.loop-name-test.true c.loop-name-item.is c.loop-name.invariant.named c.in_err-number.field-0.0 c.in_err-number.ensures.refused)

pub loop-name-preserved : goal.loop-name-preserved
loop-name-preserved g c =
    let number_in = number_of c.args.named.now in
    let pairs = c.args.pairs.now in
    let i = c.loop-name.name-index in
    let pair = c.loop-name-item.result in
    record {
      last = put-more number_in pairs i pair c.in_ok-number.number _ c.loop-name.last c.insert.new.self c.loop-name-test.true c.loop-name-item.is c.in_ok-number.ensures.number refl c.loop-name.invariant.last c.in_ok-insert.ensures.updates;
      named = none-more (λ it. text_if_missing (number_in it.0) it.0) pairs i pair c.loop-name-test.true c.loop-name-item.is c.loop-name.invariant.named c.in_ok-number.ensures.named;
    }
