-- What is printed, and what comes of a refusal: that of the table of the rows.
use Rattle.std.proofs.Common.{◌≡◌, ◌⊎◌, ◌∙◌, ap, inl, refl, subst, sym, ℕ, List, []}
use Rattle.std.specs.Prelude.{IfErr, IfOk, OnErr}
use Rattle.tabled.specs.Tables.{new_state}
use Rattle.basinmug_run.specs.Picture.TableRows.{state_of}
use Rattle.tabled_output.specs.Counts.{inner_of}
use Rattle.tabled_text.specs.Rows.{filled}
use Rattle.basinmug_cells.specs.Views.{view_rows}
use Rattle.basinmug_run.specs.Picture.Known.{AreKnown, AreNeedsFor}
use Rattle.basinmug_run.specs.Picture.Names.{IsFirstMissing}
use Rattle.tabled_list.specs.Lists.{AreSetters}
use Rattle.basinmug_run.specs.Picture.Pictures.{asked_settings, missing_of, numeric_of}
use Rattle.basinmug_run.specs.Picture.Rows.{header_of}
use Rattle.basinmug_run.proofs.PictureLemmas.Setters.{settings_are_setters}
use Rattle.basinmug_run.specs.Picture.Printed.{PrintsTableFront, IsTableFault, PrintsTable}
use Rattle.basinmug_run.proofs.PictureLemmas.Narrowed.{err-told, on-err}
use Rattle.basinmug_run.proofs.PictureLemmas.TablePrinted.{begins-named, length-cells, no-column, printed-by, refused-named, with-names}
use Rattle.basinmug_run.proofs.PictureLemmas.Written.{name-missing, table-refused}
use Rattle.basinmug_run.proofs.picture.printing.print_shown.Goals as goal

pub appearance_of-requires : goal.appearance_of-requires
appearance_of-requires g c =
    subst (λ (it : List (List (List ℕ))). AreKnown c.args.options.now.header it c.args.known) (sym c.view-texts.ensures) c.requires

pub print_table-requires : goal.print_table-requires
print_table-requires g c =
    let options = c.args.options.now in
    let rows = view_rows c.view-texts.result in
    subst AreSetters (sym c.in_ok-appearance.ensures.settings) (settings_are_setters options.line_style (header_of options.header rows) (numeric_of options.header rows) options.alignments.items options.colors.items)

pub returns-in_err-more-clause-front : goal.returns-in_err-more-clause-front
returns-in_err-more-clause-front g c = on-err c.from_residual.result _ (inl refl)

pub returns-in_err-appearance-clause-front : goal.returns-in_err-appearance-clause-front
returns-in_err-appearance-clause-front g c = on-err c.from_residual-in_err-appearance.result _ (inl refl)

pub returns-in_err-cells-clause-front : goal.returns-in_err-cells-clause-front
returns-in_err-cells-clause-front g c = on-err c.from_residual-in_err-cells.result _ (inl refl)

pub returns-in_err-appearance-clause-refused : goal.returns-in_err-appearance-clause-refused
returns-in_err-appearance-clause-refused g c =
    let options = c.args.options.now in
    let fault = c.in_err-appearance.field-0.0 in
    err-told c.from_residual-in_err-appearance.result fault _ c.from_residual-in_err-appearance.ensures.1
    (no-column options c.args.shown.rows c.args.rows.rows fault (subst (λ (it : List (List (List ℕ))). IsFirstMissing (missing_of options it) fault) (c.view-texts.ensures) c.in_err-appearance.ensures.refused))

pub returns-in_err-appearance-clause-writer : goal.returns-in_err-appearance-clause-writer
returns-in_err-appearance-clause-writer g c =
    name-missing c.args.writer.now (missing_of c.args.options.now (view_rows c.view-texts.result)) c.in_err-appearance.field-0.0 c.from_residual-in_err-appearance.result c.from_residual-in_err-appearance.ensures.1 c.in_err-appearance.ensures.refused

pub returns-clause-printed : goal.returns-clause-printed
returns-clause-printed g c =
    let options = c.args.options.now in
    let shown = c.args.shown in
    let rows = c.args.rows.rows in
    let made = c.in_ok-appearance.appearance in
    let given : view_rows c.view-texts.result ≡ rows = c.view-texts.ensures in
    let before = g.W.Write.contents (inner_of c.args.writer.now) in
    let after = g.W.Write.contents (inner_of c.print_table.new.writer) in
    let result = c.print_table.result in
    with-names options shown.rows rows shown.columns result before after (subst (λ (it : List (List (List ℕ))). missing_of options it ≡ []) given c.in_ok-appearance.ensures.named)
    (printed-by options shown.rows rows shown.columns made.settings.items made.needs.items (state_of c.new-table.result) c.len.result c.as_str-ending.result.now
    (λ Makes NotMade text. IfOk result (λ printed. PrintsTable Makes text options.width printed.wider before after))
    (c.in_ok-appearance.ensures.settings ∙ ap (asked_settings options) given)
    (subst (λ (it : List (List (List ℕ))). AreNeedsFor options it made.needs.items) given c.in_ok-appearance.ensures.needs)
    (c.new-table.ensures ∙ ap new_state (c.new.ensures ∙ ap filled c.in_ok-cells.ensures))
    (length-cells options shown.rows rows c.in_ok-cells.cells.rows c.len.result c.len.ensures c.in_ok-cells.ensures)
    (c.as_str-ending.ensures.value ∙ c.in_ok-more.ensures)
    c.print_table.ensures.printed)

pub returns-clause-front : goal.returns-clause-front
returns-clause-front g c =
    let options = c.args.options.now in
    let shown = c.args.shown in
    let rows = c.args.rows.rows in
    let made = c.in_ok-appearance.appearance in
    let given : view_rows c.view-texts.result ≡ rows = c.view-texts.ensures in
    let before = g.W.Write.contents (inner_of c.args.writer.now) in
    let after = g.W.Write.contents (inner_of c.print_table.new.writer) in
    let same = c.print_table.new.writer ≡ c.args.writer.now in
    begins-named options shown.rows rows shown.columns c.print_table.result same before after (subst (λ (it : List (List (List ℕ))). missing_of options it ≡ []) given c.in_ok-appearance.ensures.named)
    (printed-by options shown.rows rows shown.columns made.settings.items made.needs.items (state_of c.new-table.result) c.len.result c.as_str-ending.result.now
    (λ Makes NotMade text. OnErr c.print_table.result (same ⊎ PrintsTableFront Makes text before after))
    (c.in_ok-appearance.ensures.settings ∙ ap (asked_settings options) given)
    (subst (λ (it : List (List (List ℕ))). AreNeedsFor options it made.needs.items) given c.in_ok-appearance.ensures.needs)
    (c.new-table.ensures ∙ ap new_state (c.new.ensures ∙ ap filled c.in_ok-cells.ensures))
    (length-cells options shown.rows rows c.in_ok-cells.cells.rows c.len.result c.len.ensures c.in_ok-cells.ensures)
    (c.as_str-ending.ensures.value ∙ c.in_ok-more.ensures)
    c.print_table.ensures.front)

pub returns-clause-refused : goal.returns-clause-refused
returns-clause-refused g c =
    let options = c.args.options.now in
    let shown = c.args.shown in
    let rows = c.args.rows.rows in
    let made = c.in_ok-appearance.appearance in
    let given : view_rows c.view-texts.result ≡ rows = c.view-texts.ensures in
    let result = c.print_table.result in
    refused-named options shown.rows rows result (subst (λ (it : List (List (List ℕ))). missing_of options it ≡ []) given c.in_ok-appearance.ensures.named)
    (printed-by options shown.rows rows shown.columns made.settings.items made.needs.items (state_of c.new-table.result) c.len.result c.as_str-ending.result.now
    (λ Makes NotMade text. IfErr result (IsTableFault Makes NotMade))
    (c.in_ok-appearance.ensures.settings ∙ ap (asked_settings options) given)
    (subst (λ (it : List (List (List ℕ))). AreNeedsFor options it made.needs.items) given c.in_ok-appearance.ensures.needs)
    (c.new-table.ensures ∙ ap new_state (c.new.ensures ∙ ap filled c.in_ok-cells.ensures))
    (length-cells options shown.rows rows c.in_ok-cells.cells.rows c.len.result c.len.ensures c.in_ok-cells.ensures)
    (c.as_str-ending.ensures.value ∙ c.in_ok-more.ensures)
    c.print_table.ensures.refused)
