-- All lines of a table's text take as many columns, and texts of plain characters add up.
use Rattle.std.proofs.Common.{◌≡◌, ◌<◌, ℕ, All, List, [], ◌∷◌, Option, None, Some, get_or, map, ap, sym, subst}
use Rattle.std.specs.List.{AllByRecursion, range_with_len}
use Rattle.std.proofs.lemmas.List.Elements.{All-from_recursion}
use Rattle.ansi_str.specs.Characters.{shown_chars}
use Rattle.grid_config.specs.Closing.{AreSequences}
use Rattle.grid_config.specs.Colors.{Color, no_color}
use Rattle.grid_config.specs.Looks.{Look}
use Rattle.grid_config.specs.Settings.{Settings}
use Rattle.grid_config_values.specs.declared.spans.extent.Extent.{Extent}
use Rattle.grid_config_values.specs.declared.position.Position.{Position}
use Rattle.grid_records_measure.specs.Measures.{line_cost}
use Rattle.grid_records_measure.specs.TextLines.{text_lines}
use Rattle.grid_records_traits.specs.Rows.{text_at}
use Rattle.papergrid_picture.specs.Colors.ClosingColors.{AreClosing, ShowsNothing}
use Rattle.papergrid_picture.proofs.ColorsLemmas.Stripped.{closing-show_nothing}
use Rattle.papergrid_picture.specs.Shown.{ArePlainlyShown, AreWholeTexts, CostsOne, IsBare, IsPlainlyShown, ShowsOnly, WritesNothing}
use Rattle.papergrid_picture.proofs.Related.{All-get_or}
use Rattle.papergrid_picture.proofs.Shown.{pieces-nothing}
use Rattle.tabled.specs.Narrowed.{IsPlainlyPrinted}
use Rattle.tabled_steps.specs.States.{State}
use Rattle.tabled_list.specs.Stripping.Printing.{printed}
use Rattle.tabled_list.specs.Stripping.Totals.{drawn_height, drawn_line, drawn_width}
use Rattle.tables_laws.specs.Shown.ClosingLooks.{IsClosingLook}
use Rattle.tables_laws.specs.Shown.CountedTables.{CountsOnes, IsCounted, ShowsNothingIfSet, TextsAddUp}
use Rattle.tables_laws.proofs.ShownLemmas.Counts.{plain-nothing, plain-text-adds}
use Rattle.tables_laws.proofs.ShownLemmas.EvenLines.{line-columns}
use Rattle.tables_laws.proofs.ShownLemmas.LineEnds.{text_lines-drawn}
use Rattle.tables_laws.proofs.ShownLemmas.Looks.{colored-also}

abbrev TakesAll : State → List ℕ → Type 0
TakesAll s line = line_cost (shown_chars line) ≡ drawn_width s

each-even : (spans : List (Position × Extent)) (s : State) → IsCounted spans s → (ys : List ℕ) → AllByRecursion (TakesAll s) (map (drawn_line s) ys)
each-even spans s counted [] = tt
each-even spans s counted (y ∷ ys) = (line-columns spans s y counted, each-even spans s counted ys)

pub all-even : (spans : List (Position × Extent)) (s : State) → IsCounted spans s → IsClosingLook s.look → AreWholeTexts s.rows → AreClosing s.colors → 0 < drawn_height s → All (TakesAll s) (text_lines (printed s))
all-even spans s counted look texts colors some =
    subst (λ (lines : List (List ℕ)). All (TakesAll s) lines) (sym (text_lines-drawn s look texts colors some))
    (All-from_recursion (TakesAll s) (map (drawn_line s) (range_with_len 0 (drawn_height s))) (each-even spans s counted (range_with_len 0 (drawn_height s))))

pub texts-add : (s : State) → ArePlainlyShown s.rows → TextsAddUp s.look s.rows
texts-add s texts cell =
    plain-text-adds (s.look.trim_horizontal cell) (text_at s.rows cell)
    (All-get_or IsPlainlyShown (get_or s.rows cell.row []) cell.col [] (All-get_or (AllByRecursion IsPlainlyShown) s.rows cell.row [] texts tt) plain-nothing)

-- a look that is bare has no colours
bare-counts : (look : Look) → IsBare look → ShowsOnly CostsOne look → CountsOnes look
bare-counts look bare ones = record { shown = bare.shown; ones = ones; colors = colored-also WritesNothing ShowsNothingIfSet silent look bare.no_colors }
  where
    nothing : ShowsNothing no_color
    nothing =
        let form : AreSequences [] = record { whole = tt; no_text = tt } in
        record { prefix_form = subst AreSequences (sym pieces-nothing) form; suffix_form = subst AreSequences (sym pieces-nothing) form }

    silent : (color : Option Color) → WritesNothing color → ShowsNothingIfSet color
    silent None is = tt
    silent (Some color) is = subst ShowsNothing (sym is) nothing

pub plainly-counted : (settings : Settings) (s : State) → IsPlainlyPrinted settings s → IsCounted settings.spans s
plainly-counted settings s is = record {
  extents = ap (λ (look : Look). look.extent) is.look;
  positive = is.spans;
  some_rows = is.some_rows;
  some_columns = is.some_columns;
  fits = is.fits;
  counts = bare-counts s.look is.bare is.ones;
  cells = closing-show_nothing s.colors is.closing;
  texts = texts-add s is.texts;
}
