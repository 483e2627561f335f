-- All fit, none, or some.
use Rattle.std.proofs.Common.{◌<◌, ◌-◌, sum, arith, ◌≡◌, ◌∙◌, sym, false}
use Rattle.std.specs.Prelude.{nat_le}
use Rattle.std.proofs.lemmas.Bool.Decides.{nat_tests}
use Rattle.basinmug_columns.proofs.Kept.{fit-some}
use Rattle.basinmug_columns.proofs.shown.greatest_fit.Goals as goal

pub returns : goal.returns
returns c =
    let costs = c.args.costs.now in
    let room = c.args.width - c.args.frame in
    let no : nat_le (sum costs) room ≡ false = sym c.all_fit.ensures ∙ c.if-all_fit.false in
    let wide : room < sum costs = grind (arith, nat_tests, no) in
    fit-some c.args.frame c.args.mark costs c.args.width c.count_in.result c.if-width-frame.false wide c.if-room-mark.false c.count_in.ensures.within c.count_in.ensures.fits c.count_in.ensures.greatest
