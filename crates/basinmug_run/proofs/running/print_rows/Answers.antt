-- What is printed of the rows that are shown of these.
use Rattle.std.proofs.Common.{◌≡◌, ◌⊎◌, subst}
use Rattle.std.specs.Prelude.{IfErr, IfOk, OnErr}
use Rattle.tabled_output.specs.Counts.{inner_of}
use Rattle.basinmug_run.specs.Kept.{Kept}
use Rattle.basinmug_run.specs.Runs.{IsKeptFault, PrintsKept, PrintsKeptFront}
use Rattle.basinmug_run.proofs.running.print_rows.Goals as goal

pub returns-clause-printed : goal.returns-clause-printed
returns-clause-printed g c =
    let old = g.W.Write.contents (inner_of c.args.writer.now) in
    let new = g.W.Write.contents (inner_of c.print_kept.new.writer) in
    subst (λ (it : Kept). IfOk c.print_kept.result (λ printed. PrintsKept c.args.options.now it printed.wider old new)) c.kept_of-kept.ensures c.print_kept.ensures.printed

pub returns-clause-front : goal.returns-clause-front
returns-clause-front g c =
    let old = g.W.Write.contents (inner_of c.args.writer.now) in
    let new = g.W.Write.contents (inner_of c.print_kept.new.writer) in
    let same = c.print_kept.new.writer ≡ c.args.writer.now in
    subst (λ (it : Kept). OnErr c.print_kept.result (same ⊎ PrintsKeptFront c.args.options.now it old new)) c.kept_of-kept.ensures c.print_kept.ensures.front

pub returns-clause-refused : goal.returns-clause-refused
returns-clause-refused g c =
    subst (λ (it : Kept). IfErr c.print_kept.result (IsKeptFault c.args.options.now it)) c.kept_of-kept.ensures c.print_kept.ensures.refused
