use Rattle.std.proofs.Common.{◌++◌, ◌∷◌, ◌==◌, [], List, ℕ, length, slice_index, sym, subst, ap, ◌∙◌, if◌then◌else◌}
use Rattle.columns_asked.specs.DrawnTables.{heights_of, widths_of}
use Rattle.columns_asked.specs.Colors.ColumnColors.{cell_color}
use Rattle.grid_config.specs.Compact.{compact_of}
use Rattle.grid_config.specs.Looks.{look_of}
use Rattle.grid_records_estimate.specs.Estimates.{greatest}
use Rattle.grid_records_measure.specs.TextLines.{line_feed}
use Rattle.papergrid_fits.specs.Grids.{grid_text}
use Rattle.papergrid_fits.specs.Tables.{CanBeDrawn}
use Rattle.tabled_output.specs.Pieces.{Passes}
use Rattle.tabled_output.proofs.WrittenPieces.{passes-none}
use Rattle.columns_table.specs.Answers.{natural_text}
use Rattle.columns_table.specs.Listed.{AreSizesOf}
use Rattle.columns_table.specs.Rows.{row_texts_of}
use Rattle.columns_table.proofs.Natural.{OnOk-always, fits, lines-are, listed, natural-room, prints, some-heights}
use Rattle.columns_table.proofs.table.write_natural.Goals as goal

pub write_grid-requires-clause-fits : goal.write_grid-requires-clause-fits
write_grid-requires-clause-fits g c = λ some.
    let rows = c.args.rows in
    let style = compact_of c.args.style.now in
    let widths = c.args.sizes.widths.items in
    let heights = c.args.sizes.heights.items in
    let columns = c.new-records.ensures.columns ∙ c.greatest-columns.ensures ∙ ap greatest c.deref.ensures.value in
    subst (λ texts. CanBeDrawn c.in_ok-settings.settings (slice_index widths) (slice_index heights) c.new-records.result.columns texts) (sym c.new-records.ensures.rows)
    (fits style c.in_ok-settings.settings c.in_ok-settings.ensures.settings rows.counts.items rows.cells rows.whole widths heights
    c.requires.widths c.requires.heights (some-heights style _ (λ none. some (c.requires.lines ∙ none))) c.requires.fits c.new-records.result.columns columns)

pub write_grid-requires-clause-listed : goal.write_grid-requires-clause-listed
write_grid-requires-clause-listed g c = λ some.
    let rows = c.args.rows in
    let style = compact_of c.args.style.now in
    let columns = c.new-records.ensures.columns ∙ c.greatest-columns.ensures ∙ ap greatest c.deref.ensures.value in
    subst (λ (texts : List (List (List ℕ))). AreSizesOf c.args.sizes c.new-records.result.columns (length texts)) (sym c.new-records.ensures.rows)
    (listed style c.in_ok-settings.settings c.in_ok-settings.ensures.settings rows.counts.items rows.cells rows.whole c.args.sizes.widths.items c.args.sizes.heights.items
    c.requires.widths c.requires.heights (some-heights style _ (λ none. some (c.requires.lines ∙ none))) c.new-records.result.columns columns)

pub write_grid-requires-clause-lines : goal.write_grid-requires-clause-lines
write_grid-requires-clause-lines g c =
    let texts = row_texts_of c.args.rows in
    let style = compact_of c.args.style.now in
    lines-are style c.in_ok-settings.settings c.in_ok-settings.ensures.settings (widths_of style texts) (heights_of style texts) c.args.sizes.widths.items c.args.sizes.heights.items c.args.sizes.whole_height c.requires.widths c.requires.heights c.requires.lines

pub returns-clause-table : goal.returns-clause-table
returns-clause-table g c =
    let rows = c.args.rows in
    let settings = c.in_ok-settings.settings in
    let widths = c.args.sizes.widths.items in
    let heights = c.args.sizes.heights.items in
    let columns = c.new-records.ensures.columns ∙ c.greatest-columns.ensures ∙ ap greatest c.deref.ensures.value in
    subst (λ text. Passes g.W.Write.contents text c.write_grid.result [] c.args.writer.now c.write_grid.new.writer)
    (ap (λ texts. if c.args.sizes.whole_height == 0 then [] else grid_text (look_of settings) (slice_index widths) (slice_index heights) (cell_color c.args.colors.now) c.new-records.result.columns texts ++ line_feed ∷ []) c.new-records.ensures.rows
    ∙ prints (compact_of c.args.style.now) settings c.in_ok-settings.ensures.settings rows.counts.items rows.cells rows.whole (cell_color c.args.colors.now) widths heights
    c.args.sizes.whole_height c.new-records.result.columns c.requires.widths c.requires.heights c.requires.lines columns)
    c.write_grid.ensures.text

pub returns-in_err-settings-clause-table : goal.returns-in_err-settings-clause-table
returns-in_err-settings-clause-table g c =
    passes-none g.W.Write.contents (natural_text (compact_of c.args.style.now) (cell_color c.args.colors.now) (row_texts_of c.args.rows)) [] c.from_residual.result c.args.writer.now c.from_residual.ensures.0

pub returns-clause-alone : goal.returns-clause-alone
returns-clause-alone g c = λ wide.
    let rows = c.args.rows in
    absurd (wide (natural-room (compact_of c.args.style.now) c.in_ok-settings.settings c.in_ok-settings.ensures.settings rows.counts.items rows.cells rows.whole))

pub returns-clause-room : goal.returns-clause-room
returns-clause-room g c =
    let rows = c.args.rows in
    OnOk-always c.write_grid.result
    (natural-room (compact_of c.args.style.now) c.in_ok-settings.settings c.in_ok-settings.ensures.settings rows.counts.items rows.cells rows.whole)
