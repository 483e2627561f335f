use Rattle.std.proofs.Common.{ap}
use Rattle.basinmug_bounded.proofs.OfLent.{run-wrote}
use Rattle.basinmug_bounded.proofs.OfTexts.{BeginsText, ends-text, text-alone, text-begun}
use Rattle.basinmug_bounded.specs.Texts.{EndsText, IsTextFault, delimited}
use Rattle.basinmug_bounded.proofs.printing.run_to.Goals as goal

pub returns : goal.returns
returns g c =
    let options = c.args.options.now in
    let read = delimited c.args.delimiter c.args.records.now in
    let given = c.new-counted.ensures.inner in
    let ran = c.run-outcome in
    run-wrote (EndsText options read) (BeginsText options read) (IsTextFault options read) (text-alone options read) (text-begun options read)
    g.W.Write.contents c.new-counted.result ran.new.writer ran.result
    (ends-text options read ran.result _ _ ran.ensures.readable ran.ensures.printed) ran.ensures.front ran.ensures.untouched ran.ensures.refused
    _ _ _ c.into_inner-writer.result (ap (λ lent. lent.writer.ghost_name) given) (ap (λ lent. lent.writer.now) given) c.into_inner-writer.ensures c.writer-1.given.1
