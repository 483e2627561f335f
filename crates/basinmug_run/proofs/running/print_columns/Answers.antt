-- The table of its columns, and what comes of a refusal.
use Rattle.std.proofs.Common.{◌≡◌, ◌∙◌, ap, ap₂, inl, refl, subst, sym, ℕ, List, []}
use Rattle.std.specs.List.{count_by}
use Rattle.tabled_output.specs.Counts.{inner_of}
use Rattle.basinmug_cells.specs.Views.{view_rows}
use Rattle.basinmug_columns.specs.declared.shown.ShownColumn.{ShownColumn}
use Rattle.basinmug_run.specs.Columns.{column_counts, columns_in, given_for, is_of_input, last_for, missing_of_columns, number_in, table_columns, value_in, with_columns}
use Rattle.basinmug_run.specs.Kept.{kept_view}
use Rattle.basinmug_run.specs.Picture.Known.{AreKnown}
use Rattle.basinmug_run.specs.Picture.Names.{IsFirstMissing}
use Rattle.basinmug_run.specs.Runs.{IsOwn, missing_kept, table_rows}
use Rattle.basinmug_run.proofs.OfColumns.{all-are, columns-fault, table-are, own-are, own-front, own-printed, own-refused}
use Rattle.basinmug_run.proofs.PictureLemmas.Narrowed.{err-told, on-err}
use Rattle.basinmug_run.proofs.PictureLemmas.Written.{name-missing}
use Rattle.basinmug_run.proofs.running.print_columns.Goals as goal

pub columns_of_table-requires : goal.columns_of_table-requires
columns_of_table-requires g c =
    subst (λ (it : List (List (List ℕ))). AreKnown c.args.options.now.header it c.args.known) (sym c.view-texts.ensures) c.requires

pub returns-in_err-named-clause-front : goal.returns-in_err-named-clause-front
returns-in_err-named-clause-front g c = on-err c.from_residual.result _ (inl refl)

pub returns-in_err-columns-clause-front : goal.returns-in_err-columns-clause-front
returns-in_err-columns-clause-front g c = on-err c.from_residual-in_err-columns.result _ (inl refl)

pub returns-in_err-own-clause-front : goal.returns-in_err-own-clause-front
returns-in_err-own-clause-front g c = on-err c.from_residual-in_err-own.result _ (inl refl)

pub returns-in_err-cells-clause-front : goal.returns-in_err-cells-clause-front
returns-in_err-cells-clause-front g c = on-err c.from_residual-in_err-cells.result _ (inl refl)

pub returns-in_err-named-clause-refused : goal.returns-in_err-named-clause-refused
returns-in_err-named-clause-refused g c =
    let options = c.args.options.now in
    let kept = kept_view c.args.kept in
    let fault = c.in_err-named.field-0.0 in
    err-told c.from_residual.result fault _ c.from_residual.ensures.1
    (columns-fault options kept fault (subst (λ (it : List (List (List ℕ))). IsFirstMissing (missing_of_columns options kept.columns it) fault) (c.view-texts.ensures) c.in_err-named.ensures.refused))

pub returns-in_err-named-clause-writer : goal.returns-in_err-named-clause-writer
returns-in_err-named-clause-writer g c =
    name-missing c.args.writer.now (missing_of_columns c.args.options.now c.args.kept.columns (view_rows c.view-texts.result)) c.in_err-named.field-0.0 c.from_residual.result c.from_residual.ensures.1 c.in_err-named.ensures.refused

pub returns-clause-printed : goal.returns-clause-printed
returns-clause-printed g c =
    let options = c.args.options.now in
    let kept = kept_view c.args.kept in
    let rows = kept.rows in
    let found = c.in_ok-named.named in
    let had = c.in_ok-columns.columns in
    let texts = view_rows c.view-texts.result in
    let given : texts ≡ rows = c.view-texts.ensures in
    let all_named : missing_kept options kept ≡ [] = subst (λ (it : List (List (List ℕ))). missing_of_columns options kept.columns it ≡ []) given c.in_ok-named.ensures.named in
    let chosen : c.as_slice-chosen.result.now ≡ columns_in options texts = c.as_slice-chosen.ensures.value ∙ c.in_ok-named.ensures.columns in
    let columns : had.shown.items ≡ table_columns options rows = table-are options rows texts c.as_slice-chosen.result.now had.shown.items given chosen c.in_ok-columns.ensures.shown in
    let of_table : c.as_slice-of_table.result.now ≡ table_columns options rows = c.as_slice-of_table.ensures.value ∙ columns in
    let own = c.in_ok-own.own in
    let are : IsOwn options kept own =
    own-are options rows own c.as_slice-of_table.result.now (value_in found.alignments) (value_in found.colors) of_table
    (λ column. c.in_ok-named.ensures.alignments column ∙ ap (λ (it : List (List (List ℕ))). last_for (given_for (number_in options it) options.alignments.items) column) given)
    (λ column. c.in_ok-named.ensures.colors column ∙ ap (λ (it : List (List (List ℕ))). last_for (given_for (number_in options it) options.colors.items) column) given) c.in_ok-own.ensures in
    let counts : (c.count.result, had.all) ≡ column_counts options rows =
    ap₂ (λ (m n : ℕ). (m, n)) (c.count.ensures ∙ ap (count_by is_of_input) columns) (all-are options rows texts c.as_slice-chosen.result.now had.all given chosen c.in_ok-columns.ensures.all) in
    let cells : c.in_ok-cells.cells.rows ≡ table_rows options kept = c.in_ok-cells.ensures ∙ ap (λ (it : List ShownColumn). with_columns it rows) of_table in
    own-printed options kept all_named own are (c.count.result, had.all) counts c.in_ok-cells.cells.rows cells c.print_shown.result
    (g.W.Write.contents (inner_of c.args.writer.now)) (g.W.Write.contents (inner_of c.print_shown.new.writer)) c.print_shown.ensures.printed

pub returns-clause-front : goal.returns-clause-front
returns-clause-front g c =
    let options = c.args.options.now in
    let kept = kept_view c.args.kept in
    let rows = kept.rows in
    let found = c.in_ok-named.named in
    let had = c.in_ok-columns.columns in
    let texts = view_rows c.view-texts.result in
    let given : texts ≡ rows = c.view-texts.ensures in
    let all_named : missing_kept options kept ≡ [] = subst (λ (it : List (List (List ℕ))). missing_of_columns options kept.columns it ≡ []) given c.in_ok-named.ensures.named in
    let chosen : c.as_slice-chosen.result.now ≡ columns_in options texts = c.as_slice-chosen.ensures.value ∙ c.in_ok-named.ensures.columns in
    let columns : had.shown.items ≡ table_columns options rows = table-are options rows texts c.as_slice-chosen.result.now had.shown.items given chosen c.in_ok-columns.ensures.shown in
    let of_table : c.as_slice-of_table.result.now ≡ table_columns options rows = c.as_slice-of_table.ensures.value ∙ columns in
    let own = c.in_ok-own.own in
    let are : IsOwn options kept own =
    own-are options rows own c.as_slice-of_table.result.now (value_in found.alignments) (value_in found.colors) of_table
    (λ column. c.in_ok-named.ensures.alignments column ∙ ap (λ (it : List (List (List ℕ))). last_for (given_for (number_in options it) options.alignments.items) column) given)
    (λ column. c.in_ok-named.ensures.colors column ∙ ap (λ (it : List (List (List ℕ))). last_for (given_for (number_in options it) options.colors.items) column) given) c.in_ok-own.ensures in
    let counts : (c.count.result, had.all) ≡ column_counts options rows =
    ap₂ (λ (m n : ℕ). (m, n)) (c.count.ensures ∙ ap (count_by is_of_input) columns) (all-are options rows texts c.as_slice-chosen.result.now had.all given chosen c.in_ok-columns.ensures.all) in
    let cells : c.in_ok-cells.cells.rows ≡ table_rows options kept = c.in_ok-cells.ensures ∙ ap (λ (it : List ShownColumn). with_columns it rows) of_table in
    own-front options kept all_named own are (c.count.result, had.all) counts c.in_ok-cells.cells.rows cells c.print_shown.result (c.print_shown.new.writer ≡ c.args.writer.now)
    (g.W.Write.contents (inner_of c.args.writer.now)) (g.W.Write.contents (inner_of c.print_shown.new.writer)) c.print_shown.ensures.front

pub returns-clause-refused : goal.returns-clause-refused
returns-clause-refused g c =
    let options = c.args.options.now in
    let kept = kept_view c.args.kept in
    let rows = kept.rows in
    let found = c.in_ok-named.named in
    let had = c.in_ok-columns.columns in
    let texts = view_rows c.view-texts.result in
    let given : texts ≡ rows = c.view-texts.ensures in
    let all_named : missing_kept options kept ≡ [] = subst (λ (it : List (List (List ℕ))). missing_of_columns options kept.columns it ≡ []) given c.in_ok-named.ensures.named in
    let chosen : c.as_slice-chosen.result.now ≡ columns_in options texts = c.as_slice-chosen.ensures.value ∙ c.in_ok-named.ensures.columns in
    let columns : had.shown.items ≡ table_columns options rows = table-are options rows texts c.as_slice-chosen.result.now had.shown.items given chosen c.in_ok-columns.ensures.shown in
    let of_table : c.as_slice-of_table.result.now ≡ table_columns options rows = c.as_slice-of_table.ensures.value ∙ columns in
    let own = c.in_ok-own.own in
    let are : IsOwn options kept own =
    own-are options rows own c.as_slice-of_table.result.now (value_in found.alignments) (value_in found.colors) of_table
    (λ column. c.in_ok-named.ensures.alignments column ∙ ap (λ (it : List (List (List ℕ))). last_for (given_for (number_in options it) options.alignments.items) column) given)
    (λ column. c.in_ok-named.ensures.colors column ∙ ap (λ (it : List (List (List ℕ))). last_for (given_for (number_in options it) options.colors.items) column) given) c.in_ok-own.ensures in
    let counts : (c.count.result, had.all) ≡ column_counts options rows =
    ap₂ (λ (m n : ℕ). (m, n)) (c.count.ensures ∙ ap (count_by is_of_input) columns) (all-are options rows texts c.as_slice-chosen.result.now had.all given chosen c.in_ok-columns.ensures.all) in
    let cells : c.in_ok-cells.cells.rows ≡ table_rows options kept = c.in_ok-cells.ensures ∙ ap (λ (it : List ShownColumn). with_columns it rows) of_table in
    own-refused options kept all_named own are (c.count.result, had.all) counts c.in_ok-cells.cells.rows cells c.print_shown.result c.print_shown.ensures.refused
