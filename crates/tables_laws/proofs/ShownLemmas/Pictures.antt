-- The lines of a table's text, and all of it, show its picture.
use Rattle.std.proofs.Common.{ℕ, List, None, refl, ap, sym, subst, ◌∙◌}
use Rattle.ansi_scan.proofs.Uniqueness.{pieces-ArePiecesOf}
use Rattle.ansi_str_search.specs.Text.StyledText.{IsClosed, styled}
use Rattle.grid_config_values.specs.declared.position.Position.{Position}
use Rattle.papergrid_picture.specs.Colors.ClosingColors.{AreClosing}
use Rattle.papergrid_picture.specs.Colors.ColoredLines.{with_painted_lines}
use Rattle.papergrid_picture.proofs.ColorsLemmas.PaintedLines.{grid_items-same, grid_line-same}
use Rattle.papergrid_picture.specs.Blocks.{Grid}
use Rattle.papergrid_picture.specs.Reading.{Reading, grid_items, grid_line}
use Rattle.papergrid_picture.specs.Shown.{AreWholeTexts, Shows, Styled}
use Rattle.papergrid_picture.specs.Tables.{in_bytes, table_grid}
use Rattle.papergrid_picture.proofs.Shown.{BeginsNoSequence-feed, ShowsHere, ShowsHere-append, ShowsHere-character, ShowsHere-nothing}
use Rattle.tabled_steps.specs.States.{State}
use Rattle.tabled_list.specs.Stripping.Printing.{drawn_frame, drawn_heights, drawn_widths, printed}
use Rattle.tabled_list.specs.Stripping.Totals.{drawn_line}
use Rattle.tables_laws.specs.Shown.ClosingLooks.{ClosesIfSet, IsClosingLook, IsNoControl}
use Rattle.tables_laws.specs.Shown.ShownTables.{in_styles, shown_line, shown_picture}
use Rattle.tables_laws.proofs.ShownLemmas.Runs.{items-related, line-related}
use Rattle.tables_laws.proofs.ShownLemmas.ShownCells.{colored-shows, measures-are}
use Rattle.tables_laws.proofs.ShownLemmas.Signs.{IsNoControl-blank, signs-show}

-- what is shown, for any pieces of the bytes
pub by-pieces : (bytes : List ℕ) (characters : List Styled) → ShowsHere bytes characters → Shows bytes characters
by-pieces bytes characters here = record {
  text = here.utf8;
  shown = λ ps of_bytes. ap styled (sym (pieces-ArePiecesOf bytes ps of_bytes)) ∙ here.shown;
  closed = λ ps of_bytes. subst IsClosed (pieces-ArePiecesOf bytes ps of_bytes) here.closed;
}

module _ (s : State) (look : IsClosingLook s.look) (texts : AreWholeTexts s.rows) (colors : AreClosing s.colors) where
  abbrev first : Reading ℕ
  first = with_painted_lines (in_bytes s.look s.rows) s.colors

  abbrev bare_grid : Grid
  bare_grid = table_grid s.look s.rows (λ _. None) (drawn_widths s) (drawn_heights s)

  abbrev with_measures : (Position → List ℕ) → Grid
  with_measures measures = record { frame = drawn_frame s; measures = measures; text_color = λ _. None }

  pub line-here : (y : ℕ) → ShowsHere (drawn_line s y) (shown_line s y)
  line-here y =
      subst (λ (bytes : List ℕ). ShowsHere bytes (shown_line s y)) (sym (grid_line-same (in_bytes s.look s.rows) (table_grid s.look s.rows s.colors (drawn_widths s) (drawn_heights s)) y))
      (subst (λ (measures : Position → List ℕ). ShowsHere (grid_line first bare_grid y) (grid_line (in_styles s) (with_measures measures) y)) (λ n cell. measures-are s texts cell n)
      (line-related IsNoControl ClosesIfSet ShowsHere ShowsHere-nothing ShowsHere-append first (in_styles s) (signs-show s) (colored-shows s texts colors)
      IsNoControl-blank bare_grid (λ _. refl) look.shown look.colors y))

  pub text-here : ShowsHere (printed s) (shown_picture s)
  text-here =
      subst (λ (bytes : List ℕ). ShowsHere bytes (shown_picture s)) (sym (grid_items-same (in_bytes s.look s.rows) (table_grid s.look s.rows s.colors (drawn_widths s) (drawn_heights s))))
      (subst (λ (measures : Position → List ℕ). ShowsHere (grid_items first bare_grid) (grid_items (in_styles s) (with_measures measures))) (λ n cell. measures-are s texts cell n)
      (items-related IsNoControl ClosesIfSet ShowsHere ShowsHere-nothing ShowsHere-append first (in_styles s) (signs-show s) (colored-shows s texts colors)
      IsNoControl-blank bare_grid (λ _. refl) look.shown look.colors (ShowsHere-character 0x0a BeginsNoSequence-feed)))
