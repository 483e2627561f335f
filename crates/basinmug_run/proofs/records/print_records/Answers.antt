-- The records of the chosen columns, and what comes of a refusal.
use Rattle.std.proofs.Common.{◌≡◌, ◌∙◌, ap, inl, refl, subst, ℕ, List, []}
use Rattle.tabled_output.specs.Counts.{inner_of}
use Rattle.basinmug_cells.specs.Views.{view_rows}
use Rattle.basinmug_columns.specs.declared.shown.ShownColumn.{ShownColumn}
use Rattle.basinmug_run.specs.Columns.{columns_in, missing_of_columns, own_rows, rows_with}
use Rattle.basinmug_run.specs.Kept.{kept_view}
use Rattle.basinmug_run.specs.Picture.Names.{IsFirstMissing}
use Rattle.basinmug_run.specs.Runs.{missing_kept}
use Rattle.basinmug_run.proofs.OfColumns.{records-fault, records-front, records-printed, records-refused}
use Rattle.basinmug_run.proofs.PictureLemmas.Narrowed.{err-told, on-err}
use Rattle.basinmug_run.proofs.PictureLemmas.Written.{name-missing}
use Rattle.basinmug_run.proofs.records.print_records.Goals as goal

pub returns-in_err-named-clause-front : goal.returns-in_err-named-clause-front
returns-in_err-named-clause-front g c = on-err c.from_residual.result _ (inl refl)

pub returns-in_err-chosen-clause-front : goal.returns-in_err-chosen-clause-front
returns-in_err-chosen-clause-front g c = on-err c.from_residual-in_err-chosen.result _ (inl refl)

pub returns-in_err-named-clause-refused : goal.returns-in_err-named-clause-refused
returns-in_err-named-clause-refused g c =
    let options = c.args.options.now in
    let kept = kept_view c.args.kept in
    let fault = c.in_err-named.field-0.0 in
    err-told c.from_residual.result fault _ c.from_residual.ensures.1
    (records-fault options kept fault (subst (λ (it : List (List (List ℕ))). IsFirstMissing (missing_of_columns options kept.columns it) fault) (c.view-texts.ensures) c.in_err-named.ensures.refused))

pub returns-in_err-named-clause-writer : goal.returns-in_err-named-clause-writer
returns-in_err-named-clause-writer g c =
    name-missing c.args.writer.now (missing_of_columns c.args.options.now c.args.kept.columns (view_rows c.view-texts.result)) c.in_err-named.field-0.0 c.from_residual.result c.from_residual.ensures.1 c.in_err-named.ensures.refused

pub returns-clause-printed : goal.returns-clause-printed
returns-clause-printed g c =
    let options = c.args.options.now in
    let kept = kept_view c.args.kept in
    let old = g.W.Write.contents (inner_of c.args.writer.now) in
    let new = g.W.Write.contents (inner_of c.print_shown.new.writer) in
    let given : view_rows c.view-texts.result ≡ kept.rows = c.view-texts.ensures in
    let all_named : missing_kept options kept ≡ [] = subst (λ (it : List (List (List ℕ))). missing_of_columns options kept.columns it ≡ []) given c.in_ok-named.ensures.named in
    let columns : c.as_slice-columns.result.now ≡ columns_in options kept.rows = c.as_slice-columns.ensures.value ∙ c.in_ok-named.ensures.columns ∙ ap (columns_in options) given in
    let texts : c.in_ok-chosen.chosen.rows ≡ own_rows options kept.rows = c.in_ok-chosen.ensures ∙ ap (λ (it : List ShownColumn). rows_with options.columns.items it kept.rows) columns in
    records-printed options kept all_named c.in_ok-chosen.chosen.rows texts c.print_shown.result old new c.print_shown.ensures.printed

pub returns-clause-front : goal.returns-clause-front
returns-clause-front g c =
    let options = c.args.options.now in
    let kept = kept_view c.args.kept in
    let old = g.W.Write.contents (inner_of c.args.writer.now) in
    let new = g.W.Write.contents (inner_of c.print_shown.new.writer) in
    let given : view_rows c.view-texts.result ≡ kept.rows = c.view-texts.ensures in
    let all_named : missing_kept options kept ≡ [] = subst (λ (it : List (List (List ℕ))). missing_of_columns options kept.columns it ≡ []) given c.in_ok-named.ensures.named in
    let columns : c.as_slice-columns.result.now ≡ columns_in options kept.rows = c.as_slice-columns.ensures.value ∙ c.in_ok-named.ensures.columns ∙ ap (columns_in options) given in
    let texts : c.in_ok-chosen.chosen.rows ≡ own_rows options kept.rows = c.in_ok-chosen.ensures ∙ ap (λ (it : List ShownColumn). rows_with options.columns.items it kept.rows) columns in
    records-front options kept all_named c.in_ok-chosen.chosen.rows texts c.print_shown.result (c.print_shown.new.writer ≡ c.args.writer.now) old new c.print_shown.ensures.front

pub returns-clause-refused : goal.returns-clause-refused
returns-clause-refused g c =
    let options = c.args.options.now in
    let kept = kept_view c.args.kept in
    let given : view_rows c.view-texts.result ≡ kept.rows = c.view-texts.ensures in
    let all_named : missing_kept options kept ≡ [] = subst (λ (it : List (List (List ℕ))). missing_of_columns options kept.columns it ≡ []) given c.in_ok-named.ensures.named in
    records-refused options kept all_named c.print_shown.result c.print_shown.ensures.refused
