-- Rows that are printed one below the other, or as a table.
use Rattle.std.proofs.Common.{◌≡◌}
use Rattle.tabled_output.specs.Counts.{inner_of}
use Rattle.basinmug_run.specs.Kept.{kept_view}
use Rattle.basinmug_run.specs.Runs.{IsAsTableFault, IsRecordsFault, PrintsAsTable, PrintsAsTableFront, PrintsRecords, PrintsRecordsFront}
use Rattle.basinmug_run.proofs.Chosen.{err-first, err-second, front-first, front-second, ok-first, ok-second}
use Rattle.basinmug_run.proofs.running.print_kept.Goals as goal

pub returns-then-options-clause-printed : goal.returns-then-options-clause-printed
returns-then-options-clause-printed g c =
    let options = c.args.options.now in
    let kept = kept_view c.args.kept in
    let old = g.W.Write.contents (inner_of c.args.writer.now) in
    let new = g.W.Write.contents (inner_of c.print_records.new.writer) in
    ok-first options.expanded c.print_records.result (λ it. PrintsRecords options kept it.wider old new) (λ it. PrintsAsTable options kept it.wider old new) c.if-options.true c.print_records.ensures.printed

pub returns-then-options-clause-front : goal.returns-then-options-clause-front
returns-then-options-clause-front g c =
    let options = c.args.options.now in
    let kept = kept_view c.args.kept in
    let old = g.W.Write.contents (inner_of c.args.writer.now) in
    let new = g.W.Write.contents (inner_of c.print_records.new.writer) in
    front-first options.expanded c.print_records.result (c.print_records.new.writer ≡ c.args.writer.now) (PrintsRecordsFront options kept old new) (PrintsAsTableFront options kept old new) c.if-options.true c.print_records.ensures.front

pub returns-then-options-clause-refused : goal.returns-then-options-clause-refused
returns-then-options-clause-refused g c =
    let options = c.args.options.now in
    let kept = kept_view c.args.kept in
    err-first options.expanded c.print_records.result (IsRecordsFault options kept) (IsAsTableFault options kept) c.if-options.true c.print_records.ensures.refused

pub returns-clause-printed : goal.returns-clause-printed
returns-clause-printed g c =
    let options = c.args.options.now in
    let kept = kept_view c.args.kept in
    let old = g.W.Write.contents (inner_of c.args.writer.now) in
    let new = g.W.Write.contents (inner_of c.print_as_table.new.writer) in
    ok-second options.expanded c.print_as_table.result (λ it. PrintsRecords options kept it.wider old new) (λ it. PrintsAsTable options kept it.wider old new) c.if-options.false
    c.print_as_table.ensures.printed

pub returns-clause-front : goal.returns-clause-front
returns-clause-front g c =
    let options = c.args.options.now in
    let kept = kept_view c.args.kept in
    let old = g.W.Write.contents (inner_of c.args.writer.now) in
    let new = g.W.Write.contents (inner_of c.print_as_table.new.writer) in
    front-second options.expanded c.print_as_table.result (c.print_as_table.new.writer ≡ c.args.writer.now) (PrintsRecordsFront options kept old new) (PrintsAsTableFront options kept old new) c.if-options.false
    c.print_as_table.ensures.front

pub returns-clause-refused : goal.returns-clause-refused
returns-clause-refused g c =
    let options = c.args.options.now in
    let kept = kept_view c.args.kept in
    err-second options.expanded c.print_as_table.result (IsRecordsFault options kept) (IsAsTableFault options kept) c.if-options.false
    c.print_as_table.ensures.refused
