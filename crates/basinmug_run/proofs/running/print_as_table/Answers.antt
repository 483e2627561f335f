-- All columns, or those that the table has.
use Rattle.std.proofs.Common.{◌≡◌, ◌∙◌, ap, inl, refl, subst, sym, ℕ, List, None, true, false}
use Rattle.tabled_output.specs.Counts.{inner_of}
use Rattle.basinmug_run.specs.Columns.{shows_whole_rows}
use Rattle.basinmug_run.specs.Kept.{kept_view}
use Rattle.basinmug_run.specs.Picture.Known.{AreKnown}
use Rattle.basinmug_run.specs.Picture.Printed.{IsShownFault, PrintsShown, PrintsShownFront}
use Rattle.basinmug_run.specs.Runs.{IsColumnsFault, PrintsColumns, PrintsColumnsFront}
use Rattle.basinmug_run.specs.declared.picture.fault.PrintFault.TheVariants.{Memory}
use Rattle.basinmug_run.proofs.OfColumns.{table-memory}
use Rattle.basinmug_run.proofs.PictureLemmas.Narrowed.{err-told, on-err}
use Rattle.basinmug_run.proofs.Chosen.{err-first, err-second, front-first, front-second, ok-first, ok-second}
use Rattle.basinmug_run.proofs.running.print_as_table.Goals as goal

pub print_shown-requires : goal.print_shown-requires
print_shown-requires g c =
    subst (λ (it : List (List (List ℕ))). AreKnown c.args.options.now.header it c.in_ok-whole.whole.facts) (c.view-texts.ensures) c.in_ok-whole.ensures.known

pub print_columns-requires : goal.print_columns-requires
print_columns-requires g c =
    subst (λ (it : List (List (List ℕ))). AreKnown c.args.options.now.header it c.in_ok-whole.whole.facts) (c.view-texts.ensures) c.in_ok-whole.ensures.known

pub returns-in_err-whole-clause-front : goal.returns-in_err-whole-clause-front
returns-in_err-whole-clause-front g c = on-err c.from_residual.result _ (inl refl)

pub returns-in_err-whole-clause-refused : goal.returns-in_err-whole-clause-refused
returns-in_err-whole-clause-refused g c =
    let options = c.args.options.now in
    let kept = kept_view c.args.kept in
    err-told c.from_residual.result Memory _ c.from_residual.ensures.1 (table-memory options kept)

pub returns-then-are_shown-clause-printed : goal.returns-then-are_shown-clause-printed
returns-then-are_shown-clause-printed g c =
    let options = c.args.options.now in
    let kept = kept_view c.args.kept in
    let old = g.W.Write.contents (inner_of c.args.writer.now) in
    let new = g.W.Write.contents (inner_of c.print_shown.new.writer) in
    let given = c.view-texts.ensures in
    let none : shows_whole_rows options kept.rows ≡ true = ap (shows_whole_rows options) (sym given) ∙ sym c.in_ok-whole.ensures.whole ∙ c.if-are_shown.true in
    ok-first (shows_whole_rows options kept.rows) c.print_shown.result (λ it. PrintsShown options kept.shown kept.rows None it.wider old new) (λ it. PrintsColumns options kept it.wider old new) none c.print_shown.ensures.printed

pub returns-then-are_shown-clause-front : goal.returns-then-are_shown-clause-front
returns-then-are_shown-clause-front g c =
    let options = c.args.options.now in
    let kept = kept_view c.args.kept in
    let old = g.W.Write.contents (inner_of c.args.writer.now) in
    let new = g.W.Write.contents (inner_of c.print_shown.new.writer) in
    let given = c.view-texts.ensures in
    let none : shows_whole_rows options kept.rows ≡ true = ap (shows_whole_rows options) (sym given) ∙ sym c.in_ok-whole.ensures.whole ∙ c.if-are_shown.true in
    front-first (shows_whole_rows options kept.rows) c.print_shown.result (c.print_shown.new.writer ≡ c.args.writer.now) (PrintsShownFront options kept.shown kept.rows None old new) (PrintsColumnsFront options kept old new) none c.print_shown.ensures.front

pub returns-then-are_shown-clause-refused : goal.returns-then-are_shown-clause-refused
returns-then-are_shown-clause-refused g c =
    let options = c.args.options.now in
    let kept = kept_view c.args.kept in
    let given = c.view-texts.ensures in
    let none : shows_whole_rows options kept.rows ≡ true = ap (shows_whole_rows options) (sym given) ∙ sym c.in_ok-whole.ensures.whole ∙ c.if-are_shown.true in
    err-first (shows_whole_rows options kept.rows) c.print_shown.result (IsShownFault options kept.shown kept.rows) (IsColumnsFault options kept) none c.print_shown.ensures.refused

pub returns-clause-printed : goal.returns-clause-printed
returns-clause-printed g c =
    let options = c.args.options.now in
    let kept = kept_view c.args.kept in
    let old = g.W.Write.contents (inner_of c.args.writer.now) in
    let new = g.W.Write.contents (inner_of c.print_columns.new.writer) in
    let given = c.view-texts.ensures in
    let some : shows_whole_rows options kept.rows ≡ false = ap (shows_whole_rows options) (sym given) ∙ sym c.in_ok-whole.ensures.whole ∙ c.if-are_shown.false in
    ok-second (shows_whole_rows options kept.rows) c.print_columns.result (λ it. PrintsShown options kept.shown kept.rows None it.wider old new) (λ it. PrintsColumns options kept it.wider old new) some c.print_columns.ensures.printed

pub returns-clause-front : goal.returns-clause-front
returns-clause-front g c =
    let options = c.args.options.now in
    let kept = kept_view c.args.kept in
    let old = g.W.Write.contents (inner_of c.args.writer.now) in
    let new = g.W.Write.contents (inner_of c.print_columns.new.writer) in
    let given = c.view-texts.ensures in
    let some : shows_whole_rows options kept.rows ≡ false = ap (shows_whole_rows options) (sym given) ∙ sym c.in_ok-whole.ensures.whole ∙ c.if-are_shown.false in
    front-second (shows_whole_rows options kept.rows) c.print_columns.result (c.print_columns.new.writer ≡ c.args.writer.now) (PrintsShownFront options kept.shown kept.rows None old new) (PrintsColumnsFront options kept old new) some c.print_columns.ensures.front

pub returns-clause-refused : goal.returns-clause-refused
returns-clause-refused g c =
    let options = c.args.options.now in
    let kept = kept_view c.args.kept in
    let given = c.view-texts.ensures in
    let some : shows_whole_rows options kept.rows ≡ false = ap (shows_whole_rows options) (sym given) ∙ sym c.in_ok-whole.ensures.whole ∙ c.if-are_shown.false in
    err-second (shows_whole_rows options kept.rows) c.print_columns.result (IsShownFault options kept.shown kept.rows) (IsColumnsFault options kept) some c.print_columns.ensures.refused
