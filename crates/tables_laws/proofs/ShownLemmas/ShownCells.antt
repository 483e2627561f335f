-- What the lines of cells show, trimmed or not, and what they measure.
use Rattle.std.proofs.Common.{◌≡◌, ℕ, zero, suc, Bool, true, false, cond, List, [], ◌∷◌, Option, None, Some, map, get_or, refl, ap, sym, subst, ◌∙◌}
use Rattle.std.specs.Prelude.{IfSome}
use Rattle.std.specs.List.{AllByRecursion}
use Rattle.std.specs.Str.{drop_trailing_whitespace, skip_leading_whitespace, trim}
use Rattle.std.proofs.lemmas.Simd.{map-map}
use Rattle.ansi_scan.specs.Pieces.{pieces}
use Rattle.ansi_str_search.specs.Text.StyledText.{strip}
use Rattle.ansi_str_search.proofs.TextLemmas.Utf8Pieces.{IsUtf8-shown_text}
use Rattle.grid_config_values.specs.declared.position.Position.{Position}
use Rattle.grid_config.specs.Colors.{Color}
use Rattle.grid_config.specs.Looks.{Look}
use Rattle.grid_records_measure.specs.Measures.{measure}
use Rattle.grid_records_measure.specs.TextLines.{line_measure, text_lines}
use Rattle.grid_records_measure.specs.Trimming.{trimmed}
use Rattle.grid_records_measure.proofs.TextLines.{text_lines-shown}
use Rattle.grid_records_traits.specs.Rows.{text_at}
use Rattle.papergrid_picture.specs.Colors.ClosingColors.{AreClosing, IsClosing}
use Rattle.papergrid_picture.specs.Colors.ColoredLines.{with_painted_lines}
use Rattle.papergrid_picture.specs.Colors.ColoredPicture.{line_in}
use Rattle.papergrid_picture.proofs.ColorsLemmas.Lines.{ShowsHere-painted}
use Rattle.papergrid_picture.specs.CellLines.{cell_lines, cell_measures, those}
use Rattle.papergrid_picture.specs.Reading.{painted}
use Rattle.papergrid_picture.specs.Shown.{AreWholeTexts, IsWholeText, Styled, character_of, item_lines}
use Rattle.papergrid_picture.specs.Tables.{in_bytes}
use Rattle.papergrid_picture.proofs.Shown.{IsClosedPart, ShowsHere, ShowsHere-nothing, cell-styled, characters-styled, item_lines-are, kept, kept-parts, map-same, styled_of, those-map, whole-at}
use Rattle.papergrid_picture.proofs.Stripped.{stripped}
use Rattle.papergrid_picture.proofs.Widths.{chars-trim}
use Rattle.tabled_steps.specs.States.{State}
use Rattle.tables_laws.specs.Shown.ShownTables.{in_styles, styled_lines, trimmed_if}
use Rattle.tables_laws.proofs.ShownLemmas.Trimmed.{trimmed-characters, trimmed-shows}

-- ---- one line

part-shows : (trims : Bool) (part : List ℕ) → IsClosedPart part → ShowsHere (cond trims (trimmed part) part) (trimmed_if trims (styled_of part))
part-shows true part closed = trimmed-shows part closed
part-shows false part closed = record { utf8 = closed.utf8; closed = closed.closed; shown = refl }

part-measures : (trims : Bool) (part : List ℕ) → IsClosedPart part → line_measure (cond trims (trim (stripped part)) (stripped part)) ≡ measure (map character_of (trimmed_if trims (styled_of part)))
part-measures true part closed =
    ap measure (chars-trim (stripped part) (IsUtf8-shown_text part closed.utf8)
    ∙ ap (λ cs. drop_trailing_whitespace (skip_leading_whitespace cs)) (sym (characters-styled part closed.utf8))
    ∙ sym (trimmed-characters (styled_of part)))
part-measures false part closed = ap measure (sym (characters-styled part closed.utf8))

-- ---- the lines of a text

module _ (text : List ℕ) (whole : IsWholeText text) where
  module _ (trims trim_vertical : Bool) where
    abbrev parts : List (List ℕ)
    parts = those (kept text whole trim_vertical) (text_lines text)

    abbrev trimmed_lines : List (List Styled)
    trimmed_lines = map (trimmed_if trims) (item_lines character_of trim_vertical (styled_of text))

    trimmed_lines-are : trimmed_lines ≡ map (λ part. trimmed_if trims (styled_of part)) parts
    trimmed_lines-are = ap (map (trimmed_if trims)) (item_lines-are text whole trim_vertical) ∙ map-map (trimmed_if trims) styled_of parts

    each-shows : (ps : List (List ℕ)) → AllByRecursion IsClosedPart ps → (k : ℕ)
        → ShowsHere (get_or (map (λ part. cond trims (trimmed part) part) ps) k []) (get_or (map (λ part. trimmed_if trims (styled_of part)) ps) k [])
    each-shows [] all k = ShowsHere-nothing
    each-shows (part ∷ ps) all zero = part-shows trims part all.0
    each-shows (part ∷ ps) all (suc k) = each-shows ps all.1 k

    cell_line-shows : (k : ℕ) → ShowsHere (get_or (cell_lines trims trim_vertical text) k []) (get_or trimmed_lines k [])
    cell_line-shows k =
        subst (λ (lines : List (List Styled)). ShowsHere (get_or (cell_lines trims trim_vertical text) k []) (get_or lines k [])) (sym trimmed_lines-are) (each-shows parts (kept-parts text whole trim_vertical) k)

    cell_measures-are : cell_measures trims trim_vertical text ≡ map (λ line. measure (map character_of line)) trimmed_lines
    cell_measures-are =
        ap (λ shown. map (λ line. line_measure (cond trims (trim line) line)) (those (kept text whole trim_vertical) shown)) (sym (text_lines-shown text whole.whole))
        ∙ ap (map (λ line. line_measure (cond trims (trim line) line))) (those-map (λ part. strip (pieces part)) (kept text whole trim_vertical) (text_lines text))
        ∙ map-map (λ line. line_measure (cond trims (trim line) line)) (λ part. strip (pieces part)) parts
        ∙ map-same IsClosedPart (λ part. line_measure (cond trims (trim (stripped part)) (stripped part))) (λ part. measure (map character_of (trimmed_if trims (styled_of part))))
        (λ part closed. part-measures trims part closed) parts (kept-parts text whole trim_vertical)
        ∙ sym (map-map (λ (line : List Styled). measure (map character_of line)) (λ part. trimmed_if trims (styled_of part)) parts)
        ∙ ap (map (λ (line : List Styled). measure (map character_of line))) (sym trimmed_lines-are)

-- ---- the cells of a table

module _ (s : State) (texts : AreWholeTexts s.rows) where
  abbrev look : Look
  look = s.look

  lines-are : (cell : Position) → styled_lines s cell ≡ map (trimmed_if (look.trim_horizontal cell)) (item_lines character_of (look.trim_vertical cell) (styled_of (text_at s.rows cell)))
  lines-are cell = ap (λ (xs : List Styled). map (trimmed_if (look.trim_horizontal cell)) (item_lines character_of (look.trim_vertical cell) xs)) (cell-styled s.rows cell)

  pub line-shows : (cell : Position) (k : ℕ) → ShowsHere ((in_bytes look s.rows).line cell k) (get_or (styled_lines s cell) k [])
  line-shows cell k =
      subst (λ (lines : List (List Styled)). ShowsHere ((in_bytes look s.rows).line cell k) (get_or lines k [])) (sym (lines-are cell))
      (cell_line-shows (text_at s.rows cell) (whole-at s.rows texts cell) (look.trim_horizontal cell) (look.trim_vertical cell) k)

  pub measures-are : (cell : Position) → cell_measures (look.trim_horizontal cell) (look.trim_vertical cell) (text_at s.rows cell) ≡ map (λ line. measure (map character_of line)) (styled_lines s cell)
  measures-are cell =
      cell_measures-are (text_at s.rows cell) (whole-at s.rows texts cell) (look.trim_horizontal cell) (look.trim_vertical cell)
      ∙ ap (map (λ (line : List Styled). measure (map character_of line))) (sym (lines-are cell))

  -- a line of a cell in the colour of the cell
  pub colored-shows : AreClosing s.colors → (cell : Position) (k : ℕ) → ShowsHere ((with_painted_lines (in_bytes look s.rows) s.colors).line cell k) ((in_styles s).line cell k)
  colored-shows closing cell k = by (s.colors cell) (closing cell)
    where
      by : (color : Option Color) → IfSome color IsClosing
          → ShowsHere (painted (in_bytes look s.rows) color ((in_bytes look s.rows).line cell k)) (line_in color ((in_bytes look s.rows).line cell k) (get_or (styled_lines s cell) k []))
      by None is = line-shows cell k
      by (Some color) is = ShowsHere-painted color is look s.rows ((in_bytes look s.rows).line cell k) (get_or (styled_lines s cell) k []) (line-shows cell k)
