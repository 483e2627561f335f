-- The table of records: its texts are whole, its glyphs and fills are no control characters, and its colours close.
use Rattle.std.proofs.Common.{◌≡◌, ◌≤◌, ◌-◌, ℕ, Bool, true, false, List, [], ◌∷◌, Option, None, Some, map, replicate, length, refl, sym, subst, arith, nat_le, if◌then◌else◌}
use Rattle.std.specs.Prelude.{MatchBool, MatchOption}
use Rattle.std.specs.Char.{IsScalar, is_control}
use Rattle.std.specs.List.{AllByRecursion}
use Rattle.std.proofs.lemmas.Bool.Decides.{nat_tests}
use Rattle.grid_config.specs.Colors.{Color}
use Rattle.grid_config.specs.Looks.{Look}
use Rattle.grid_records_measure.specs.PlainCharacters.{is_one_column}
use Rattle.grid_records_measure.proofs.Plain.{one-column}
use Rattle.papergrid_picture.specs.Colors.ClosingColors.{AreClosing, IsClosing}
use Rattle.papergrid_picture.specs.Shown.{AreWholeTexts, BeginsNoSequence, CostsOne, IsBare, IsWholeText, WritesNothing}
use Rattle.papergrid_picture.proofs.Related.{All-append, All-map_of, All-replicate}
use Rattle.tabled.specs.Printing.{drawn_widths}
use Rattle.tabled.specs.Tables.{new_look, new_state}
use Rattle.tabled.specs.Totals.{drawn_width}
use Rattle.tabled_list.specs.Lists.{LeadsThrough}
use Rattle.tabled_steps.specs.States.{State}
use Rattle.tabled_text.specs.Rows.{filled, filled_row, longest}
use Rattle.basinmug_columns.specs.Markdown.Documents.{with_header}
use Rattle.basinmug_columns.specs.Markdown.Escapes.{in_markdown}
use Rattle.basinmug_columns.specs.declared.rows.RowsShown.{RowsShown}
use Rattle.program_options.specs.declared.basinmug.LineStyle.{LineStyle}
use Rattle.basinmug_run.specs.declared.options.Options.{Options}
use Rattle.basinmug_run.specs.Picture.Fitting.{trims, with_fitted_texts}
use Rattle.basinmug_run.specs.Picture.Narrowing.{AreAsked, FitsTexts}
use Rattle.basinmug_run.specs.Picture.Pictures.{IsTable, asked_settings, cells_in, narrowed_to, needs_in, numeric_of}
use Rattle.basinmug_run.specs.Picture.Rows.{cells_of, header_of, is_markdown, marked_rows}
use Rattle.tables_laws.specs.Shown.ClosingLooks.{ClosesIfSet, IsClosingLook, IsNoControl}
use Rattle.tables_laws.specs.Shown.CountedTables.{CountsOnes}
use Rattle.tables_laws.proofs.ShownLemmas.ClosingCounts.{closing-counts}
use Rattle.tables_laws.proofs.ShownLemmas.Looks.{colored-also, shows-also}
use Rattle.tables_laws.proofs.ShownLemmas.NewLooks.{new-colored, new-shown}
use Rattle.tables_laws.proofs.ShownLemmas.Signs.{no_control-begins}
use Rattle.basinmug_laws.specs.Shown.ClosingOptions.{HaveClosingColors}
use Rattle.basinmug_laws.proofs.ShownLemmas.FittedTexts.{ellipsis-whole, rows-fitted}
use Rattle.basinmug_laws.proofs.ShownLemmas.KeptRows.{marked-all}
use Rattle.basinmug_laws.proofs.ShownLemmas.OwnLooks.{HasLineGlyphs, IsOwnLook, IsOwnTable, run-own, settings-own, style-glyphs, trims-own}
use Rattle.basinmug_laws.proofs.ShownLemmas.WholeTexts.{text-in_markdown, whole-nothing}

-- ---- glyphs

-- no control character, and one that costs one column
abbrev pub IsGlyph : ℕ → Type 0
IsGlyph c = IsNoControl c × CostsOne c

plain-glyph : (c : ℕ) → IsScalar c → is_control c ≡ false → is_one_column c ≡ true → IsGlyph c
plain-glyph c scalar control one = let own = one-column c one in (record { scalar = scalar; no_control = control }, omega (arith, own))

drawn-glyph : (c : ℕ) → 0x2500 ≤ c → c ≤ 0x257f → IsGlyph c
drawn-glyph c low high = plain-glyph c (grind (arith, nat_tests, low, high)) (grind (arith, nat_tests, low, high)) (grind (arith, nat_tests, low, high))

pub line-glyphs : HasLineGlyphs IsGlyph
line-glyphs = record { hyphen = plain-glyph 0x2d refl refl refl; plus = plain-glyph 0x2b refl refl refl; bar = plain-glyph 0x7c refl refl refl; drawing = drawn-glyph }

new-own : IsOwnLook IsGlyph new_look
new-own = record {
  shown = new-shown IsGlyph (plain-glyph 0x2d refl refl refl) (plain-glyph 0x2b refl refl refl) (plain-glyph 0x7c refl refl refl) (plain-glyph 0x20 refl refl refl);
  uncolored = new-colored (λ color. color ≡ None) refl;
  single_cells = refl;
}

-- such a look is closing, and bare, and counts ones
module _ (look : Look) (own : IsOwnLook IsGlyph look) where
  pub own-closing : IsClosingLook look
  own-closing = record { shown = shows-also IsGlyph IsNoControl (λ c is. is.0) look own.shown; colors = colored-also (λ color. color ≡ None) ClosesIfSet closes look own.uncolored }
    where
      closes : (color : Option Color) → color ≡ None → ClosesIfSet color
      closes None is = tt
      closes (Some color) is = absurd (cc is)

  pub own-bare : IsBare look
  own-bare = record {
    shown = shows-also IsGlyph BeginsNoSequence (λ c is. no_control-begins c is.0) look own.shown;
    no_colors = colored-also (λ color. color ≡ None) WritesNothing writes look own.uncolored;
  }
    where
      writes : (color : Option Color) → color ≡ None → WritesNothing color
      writes None is = tt
      writes (Some color) is = absurd (cc is)

  pub own-counts : CountsOnes look
  own-counts = closing-counts look own-closing (shows-also IsGlyph CostsOne (λ c is. is.1) look own.shown)

-- ---- texts

with_header-whole : (header : Bool) (rows : List (List (List ℕ))) → AreWholeTexts rows → AreWholeTexts (with_header header rows)
with_header-whole header [] whole = tt
with_header-whole true (row ∷ rows) whole = whole
with_header-whole false (row ∷ rows) whole = (tt, whole)

pub cells-whole : (line_style : LineStyle) (header : Bool) (shown : RowsShown) (rows : List (List (List ℕ))) → AreWholeTexts rows → AreWholeTexts (cells_of line_style header shown rows)
cells-whole line_style header shown rows whole = by (is_markdown line_style)
  where
    marked : AreWholeTexts (marked_rows header shown rows)
    marked = marked-all IsWholeText ellipsis-whole header shown rows whole

    by : (b : Bool) → AreWholeTexts (if b then with_header header (map (map in_markdown) (marked_rows header shown rows)) else marked_rows header shown rows)
    by true =
        with_header-whole header (map (map in_markdown) (marked_rows header shown rows))
        (All-map_of (AllByRecursion IsWholeText) (AllByRecursion IsWholeText) (map in_markdown) (λ row all. All-map_of IsWholeText IsWholeText in_markdown text-in_markdown row all) (marked_rows header shown rows) marked)
    by false = marked

pub filled-whole : (rows : List (List (List ℕ))) → AreWholeTexts rows → AreWholeTexts (filled rows)
filled-whole rows whole =
    All-map_of (AllByRecursion IsWholeText) (AllByRecursion IsWholeText) (filled_row (longest rows))
    (λ row all. All-append IsWholeText row (replicate (longest rows - length row) []) all (All-replicate IsWholeText (longest rows - length row) [] whole-nothing)) rows whole

-- ---- the table

-- its look is of such glyphs and without colours, those of cells close, and its texts are whole
pub record IsShown (s : State) : Type 0 where
  pub look : IsOwnLook IsGlyph s.look
  pub colors : AreClosing s.colors
  pub texts : AreWholeTexts s.rows

module _ (options : Options) (shown : RowsShown) (rows : List (List (List ℕ))) (closing : HaveClosingColors options) (whole : AreWholeTexts rows) where
  abbrev pub begun : State
  begun = new_state (filled (cells_in options shown rows))

  begun-whole : AreWholeTexts begun.rows
  begun-whole = filled-whole (cells_in options shown rows) (cells-whole options.line_style options.header shown rows whole)

  begun-own : IsOwnTable IsGlyph IsClosing begun.rows begun
  begun-own = record { look = new-own; colors = λ cell. tt; rows_are = refl }

  pub after-own : (after : State) → LeadsThrough (asked_settings options rows) begun after → IsOwnTable IsGlyph IsClosing begun.rows after
  after-own after leads =
      run-own IsGlyph IsClosing begun.rows (asked_settings options rows)
      (settings-own IsGlyph IsClosing options.line_style (header_of options.header rows) (numeric_of options.header rows) options.alignments.items options.colors.items (style-glyphs IsGlyph line-glyphs options.line_style) closing)
      begun after begun-own leads

  shown-so : (s : State) → IsOwnTable IsGlyph IsClosing begun.rows s → IsShown s
  shown-so s own = record { look = own.look; colors = own.colors; texts = subst AreWholeTexts (sym own.rows_are) begun-whole }

  narrowed-shown : (width : ℕ) (after new : State) → IsOwnTable IsGlyph IsClosing begun.rows after → FitsTexts options.truncate options.priority (needs_in options.header rows) width after new → IsShown new
  narrowed-shown width after new own fits = by (nat_le (drawn_width after) width) fits
    where
      by : (b : Bool) → MatchBool b (new ≡ after)
          ((rooms : List ℕ) × AreAsked options.truncate options.priority (needs_in options.header rows) width after rooms
          × LeadsThrough (trims options.truncate (drawn_widths after) rooms) (with_fitted_texts options.truncate (drawn_widths after) rooms after) new) → IsShown new
      by true same = subst IsShown (sym same) (shown-so after own)
      by false (rooms, asked, leads) =
          let widths = drawn_widths after in
          let middle = with_fitted_texts options.truncate widths rooms after in
          let middle_own : IsOwnTable IsGlyph IsClosing middle.rows middle = record { look = own.look; colors = own.colors; rows_are = refl } in
          let last = run-own IsGlyph IsClosing middle.rows (trims options.truncate widths rooms) (trims-own IsGlyph IsClosing options.truncate widths rooms) middle new middle_own leads in
          record { look = last.look; colors = last.colors; texts = subst AreWholeTexts (sym last.rows_are) (rows-fitted options.truncate widths rooms after (shown-so after own).texts) }

  pub table-shown : (s : State) → IsTable options shown rows s → IsShown s
  table-shown s (after, leads, made) = by (narrowed_to options) made
    where
      by : (asked : Option ℕ) → MatchOption asked (s ≡ after) (λ width. FitsTexts options.truncate options.priority (needs_in options.header rows) width after s) → IsShown s
      by None same = subst IsShown (sym same) (shown-so after (after-own after leads))
      by (Some width) fits = narrowed-shown width after s (after-own after leads) fits
