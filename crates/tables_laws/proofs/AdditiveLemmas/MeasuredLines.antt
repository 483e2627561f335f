-- Each line of a table of additive characters measures the columns of the table.
use Rattle.std.proofs.Common.{◌≡◌, ◌<◌, ◌≤◌, ℕ, All, List, [], ◌∷◌, Ok, length, map, refl, sym, subst, ◌∙◌}
use Rattle.std.specs.List.{AllByRecursion, range_with_len}
use Rattle.std.proofs.lemmas.List.Elements.{All-from_recursion}
use Rattle.ansi_str.specs.Characters.{shown_chars}
use Rattle.grid_config_values.specs.declared.spans.extent.Extent.{Extent}
use Rattle.grid_config_values.specs.Spans.Spans.{ArePositive, extent_at}
use Rattle.grid_config_values.specs.declared.position.Position.{Position}
use Rattle.tables_laws.specs.Characters.AdditiveCharacters.{is_additive}
use Rattle.tables_laws.proofs.CharactersLemmas.Sums.{measure-own}
use Rattle.grid_records_measure.specs.Measures.{measure, own_width}
use Rattle.grid_records_measure.specs.TextLines.{text_lines, text_width}
use Rattle.grid_records_traits.specs.Rows.{text_at}
use Rattle.tables_laws.specs.Grids.CountedLooks.{IsSilent, TakesOne, TakesOnes}
use Rattle.tables_laws.specs.Grids.TextsOf.{AreAdditiveTexts}
use Rattle.tables_laws.proofs.CountsLemmas.Counts.{cell-within}
use Rattle.tables_laws.proofs.GridsLemmas.Counts.{text-adds}
use Rattle.tables_laws.proofs.GridsLemmas.EvenLines.{line-even, text-of}
use Rattle.papergrid_picture.specs.Colors.ClosingColors.{AreClosing, ShowNothing}
use Rattle.papergrid_picture.specs.Blocks.{greatest}
use Rattle.papergrid_picture.specs.Shown.{AreWholeTexts, IsColoredBy, ShowsOnly}
use Rattle.papergrid_picture.specs.Tables.{table_line}
use Rattle.tables_laws.specs.Shown.ClosingLooks.{IsClosingLook}
use Rattle.papergrid_picture.specs.CellLines.{cell_measures}
use Rattle.tables_laws.proofs.ShownLemmas.LineEnds.{text_lines-drawn}
use Rattle.tables_laws.proofs.ShownLemmas.Rooms.{good-spans, has-room, whole-width, with_spans}
use Rattle.tabled_steps.specs.States.{State, column_count}
use Rattle.tabled_list.specs.Stripping.Printing.{IsFitsAnswer, drawn_heights, drawn_widths, printed}
use Rattle.tabled_list.specs.Stripping.Totals.{drawn_height, drawn_line, drawn_width}
use Rattle.tables_laws.specs.Additive.MeasuredTables.{IsMeasured, measured_columns}

-- ---- a table that can be printed

module _ (s : State) (spans : List (Position × Extent)) (positive : ArePositive spans) (some_rows : 0 < length s.rows) (some_columns : 0 < column_count s.rows) where
  abbrev spanned : State
  spanned = with_spans s spans positive some_rows some_columns

  module _ (fits : IsFitsAnswer spanned (Ok tt)) (texts : AreAdditiveTexts s.rows) where
    within : (cell : Position) → greatest (cell_measures (s.look.trim_horizontal cell) (s.look.trim_vertical cell) (text_at s.rows cell)) ≤ text_width (text_at s.rows cell)
    within cell =
        cell-within own_width is_additive (text_at s.rows cell) (s.look.trim_horizontal cell) (s.look.trim_vertical cell)
        (text-adds is_additive is_additive measure-own (λ _ is. is) (s.look.trim_horizontal cell) (text_at s.rows cell) (text-of is_additive s.rows texts cell))

    even : TakesOnes is_additive s.look → ShowNothing s.colors → (y : ℕ) → measured_columns spanned y ≡ drawn_width spanned
    even ones silent y =
        let line = line-even is_additive is_additive measure-own (λ _ is. is) refl spanned.look s.rows s.colors (drawn_widths spanned) (drawn_heights spanned) ones-again silent texts spans y
        (good-spans s spans positive some_rows some_columns fits) (has-room s spans positive some_rows some_columns fits within) in
        measure-own (shown_chars (table_line spanned.look s.rows s.colors (drawn_widths spanned) (drawn_heights spanned) y)) line.shown ∙ line.counted
        ∙ sym (whole-width s spans positive some_rows some_columns)
      where
        again : (P : ℕ → Type 0) → ShowsOnly P s.look → ShowsOnly P spanned.look
        again P are = record { crossings = are.crossings; along_columns = are.along_columns; in_rows = are.in_rows; margins = are.margins; paddings = are.paddings; justification = are.justification }

        colored-again : IsColoredBy IsSilent s.look → IsColoredBy IsSilent spanned.look
        colored-again are = record { crossings = are.crossings; along_columns = are.along_columns; in_rows = are.in_rows; margins = are.margins; paddings = are.paddings; justification = are.justification }

        ones-again : TakesOnes is_additive spanned.look
        ones-again = record { shown = again (TakesOne is_additive) ones.shown; colors = colored-again ones.colors }

pub line-measures : (spans : List (Position × Extent)) (s : State) (y : ℕ) → IsMeasured spans s → measured_columns s y ≡ drawn_width s
line-measures spans s y is =
    let Measured : (Position → Extent) → Type 0 = λ extent.
    (let t = record s { look = record s.look { extent = extent } } in IsFitsAnswer t (Ok tt) → measured_columns t y ≡ drawn_width t) in
    let here : Measured (extent_at spans) = λ fits. even s spans is.positive is.some_rows is.some_columns fits is.texts is.look is.cells y in
    let back : Measured s.look.extent = subst (λ (extent : Position → Extent). Measured extent) (sym is.extents) here in
    back is.fits

-- ---- all lines

abbrev MeasuresAll : State → List ℕ → Type 0
MeasuresAll s line = measure (shown_chars line) ≡ drawn_width s

each-even : (spans : List (Position × Extent)) (s : State) → IsMeasured spans s → (ys : List ℕ) → AllByRecursion (MeasuresAll s) (map (drawn_line s) ys)
each-even spans s measured [] = tt
each-even spans s measured (y ∷ ys) = (line-measures spans s y measured, each-even spans s measured ys)

pub all-measure : (spans : List (Position × Extent)) (s : State) → IsMeasured spans s → IsClosingLook s.look → AreWholeTexts s.rows → AreClosing s.colors → 0 < drawn_height s → All (MeasuresAll s) (text_lines (printed s))
all-measure spans s measured look texts colors some =
    subst (λ (lines : List (List ℕ)). All (MeasuresAll s) lines) (sym (text_lines-drawn s look texts colors some))
    (All-from_recursion (MeasuresAll s) (map (drawn_line s) (range_with_len 0 (drawn_height s))) (each-even spans s measured (range_with_len 0 (drawn_height s))))
