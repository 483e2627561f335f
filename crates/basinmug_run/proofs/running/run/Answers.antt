-- What a run prints of a text, and what comes of a refusal.
use Rattle.std.proofs.Common.{◌≡◌, ◌⊎◌, ◌∙◌, inl, refl, subst}
use Rattle.tabled_output.specs.Counts.{inner_of}
use Rattle.basinmug_run.proofs.PictureLemmas.Narrowed.{err-told, on-err}
use Rattle.basinmug_run.specs.Faults.{of_input, of_print}
use Rattle.basinmug_input.specs.Rows.{rows_in}
use Rattle.basinmug_run.specs.Kept.{Kept, kept_of, kept_view}
use Rattle.basinmug_run.specs.Runs.{IsKeptFault, PrintsKept, PrintsKeptFront}
use Rattle.basinmug_run.proofs.OfKept.{read-kept}
use Rattle.basinmug_run.proofs.OfRuns.{begins-text, input-refused, not-printed, not-read, nothing-printed, writer-told}
use Rattle.basinmug_run.proofs.running.run.Goals as goal

pub returns-in_err-read-clause-front : goal.returns-in_err-read-clause-front
returns-in_err-read-clause-front g c =
    on-err c.from_residual.result _ (inl refl)

pub returns-in_err-read-clause-refused : goal.returns-in_err-read-clause-refused
returns-in_err-read-clause-refused g c =
    err-told c.from_residual.result (of_input c.in_err-read.field-0.0) _ c.from_residual.ensures.1 (not-read c.args.delimiter c.args.bytes.now c.args.options.now c.in_err-read.field-0.0 c.in_err-read.ensures.fault)

pub returns-in_err-read-clause-writer : goal.returns-in_err-read-clause-writer
returns-in_err-read-clause-writer g c = input-refused c.args.writer.now c.args.writer.now c.in_err-read.field-0.0 c.from_residual.result c.from_residual.ensures.1

pub returns-in_err-printed-clause-front : goal.returns-in_err-printed-clause-front
returns-in_err-printed-clause-front g c =
    let old = g.W.Write.contents (inner_of c.args.writer.now) in
    let new = g.W.Write.contents (inner_of c.print_kept.new.writer) in
    let options = c.args.options.now in
    let same = c.print_kept.new.writer ≡ c.args.writer.now in
    let are = c.in_ok-read.ensures in
    let kept : kept_view c.kept_read-kept.result ≡ kept_of options (rows_in options.escapes c.args.delimiter c.args.bytes.now) =
    c.kept_read-kept.ensures ∙ read-kept options (rows_in options.escapes c.args.delimiter c.args.bytes.now) c.choice_of.result c.choice_of.ensures c.in_ok-read.read.rows.rows c.in_ok-read.read.left_out c.in_ok-read.read.columns are.rows are.left_out are.columns in
    on-err c.from_residual-in_err-printed.result _
    (begins-text c.args.delimiter c.args.bytes.now options same old new are.readable
    (subst (λ (it : Kept). same ⊎ PrintsKeptFront options it old new) kept c.in_err-printed.ensures.front))

pub returns-in_err-printed-clause-untouched : goal.returns-in_err-printed-clause-untouched
returns-in_err-printed-clause-untouched g c =
    err-told c.from_residual-in_err-printed.result (of_print c.in_err-printed.field-0.0) _ c.from_residual-in_err-printed.ensures.1 (λ none. c.in_err-printed.ensures.untouched (nothing-printed c.in_err-printed.field-0.0 none))

pub returns-in_err-printed-clause-refused : goal.returns-in_err-printed-clause-refused
returns-in_err-printed-clause-refused g c =
    let options = c.args.options.now in
    let fault = c.in_err-printed.field-0.0 in
    let are = c.in_ok-read.ensures in
    let kept : kept_view c.kept_read-kept.result ≡ kept_of options (rows_in options.escapes c.args.delimiter c.args.bytes.now) =
    c.kept_read-kept.ensures ∙ read-kept options (rows_in options.escapes c.args.delimiter c.args.bytes.now) c.choice_of.result c.choice_of.ensures c.in_ok-read.read.rows.rows c.in_ok-read.read.left_out c.in_ok-read.read.columns are.rows are.left_out are.columns in
    err-told c.from_residual-in_err-printed.result (of_print fault) _ c.from_residual-in_err-printed.ensures.1
    (not-printed c.args.delimiter c.args.bytes.now options fault are.readable
    (subst (λ (it : Kept). IsKeptFault options it fault) kept c.in_err-printed.ensures.refused))

pub returns-in_err-printed-clause-writer : goal.returns-in_err-printed-clause-writer
returns-in_err-printed-clause-writer g c =
    writer-told c.args.writer.now c.print_kept.new.writer c.in_err-printed.field-0.0 c.from_residual-in_err-printed.result c.print_kept.result c.from_residual-in_err-printed.ensures.1 c.in_err-printed.was c.print_kept.ensures.writer

pub returns-clause-printed : goal.returns-clause-printed
returns-clause-printed g c =
    let options = c.args.options.now in
    let are = c.in_ok-read.ensures in
    let kept : kept_view c.kept_read-kept.result ≡ kept_of options (rows_in options.escapes c.args.delimiter c.args.bytes.now) =
    c.kept_read-kept.ensures ∙ read-kept options (rows_in options.escapes c.args.delimiter c.args.bytes.now) c.choice_of.result c.choice_of.ensures c.in_ok-read.read.rows.rows c.in_ok-read.read.left_out c.in_ok-read.read.columns are.rows are.left_out are.columns in
    subst (λ (it : Kept). PrintsKept options it c.in_ok-printed.printed.wider (g.W.Write.contents (inner_of c.args.writer.now)) (g.W.Write.contents (inner_of c.print_kept.new.writer))) kept c.in_ok-printed.ensures.printed
