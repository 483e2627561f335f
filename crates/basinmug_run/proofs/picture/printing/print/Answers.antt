-- What is printed of the rows that are shown of these.
use Rattle.std.proofs.Common.{◌≡◌, ◌⊎◌, None, subst}
use Rattle.std.specs.Prelude.{IfErr, IfOk, OnErr}
use Rattle.tabled_output.specs.Counts.{inner_of}
use Rattle.basinmug_run.specs.Kept.{Kept}
use Rattle.basinmug_run.specs.Picture.Printed.{IsShownFault, PrintsShown, PrintsShownFront}
use Rattle.basinmug_run.proofs.picture.printing.print.Goals as goal

pub returns-clause-printed : goal.returns-clause-printed
returns-clause-printed g c =
    let old = g.W.Write.contents (inner_of c.args.writer.now) in
    let new = g.W.Write.contents (inner_of c.print_shown.new.writer) in
    subst (λ (it : Kept). IfOk c.print_shown.result (λ printed. PrintsShown c.args.options.now it.shown it.rows None printed.wider old new)) c.kept_of-rows.ensures c.print_shown.ensures.printed

pub returns-clause-front : goal.returns-clause-front
returns-clause-front g c =
    let old = g.W.Write.contents (inner_of c.args.writer.now) in
    let new = g.W.Write.contents (inner_of c.print_shown.new.writer) in
    let same = c.print_shown.new.writer ≡ c.args.writer.now in
    subst (λ (it : Kept). OnErr c.print_shown.result (same ⊎ PrintsShownFront c.args.options.now it.shown it.rows None old new)) c.kept_of-rows.ensures c.print_shown.ensures.front

pub returns-clause-refused : goal.returns-clause-refused
returns-clause-refused g c =
    subst (λ (it : Kept). IfErr c.print_shown.result (IsShownFault c.args.options.now it.shown it.rows)) c.kept_of-rows.ensures c.print_shown.ensures.refused
