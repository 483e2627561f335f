-- What the lines of cells show, and what they measure.
use Rattle.std.proofs.Common.{◌≡◌, ℕ, zero, suc, ◌==◌, Bool, false, cond, List, [], ◌∷◌, map, drop, get_or, refl, ap, sym, subst, ◌∙◌}
use Rattle.std.specs.Prelude.{chars, encode_utf8_all}
use Rattle.std.specs.List.{AllByRecursion, slice_split}
use Rattle.std.specs.Str.{trim}
use Rattle.std.proofs.lemmas.Simd.{map-map}
use Rattle.std.proofs.lemmas.Str.{encodes-chars}
use Rattle.ansi_scan.specs.Pieces.{pieces}
use Rattle.ansi_str_search.specs.Text.StyledText.{strip, styled}
use Rattle.ansi_str_search.proofs.TextLemmas.Utf8Pieces.{IsUtf8-shown_text}
use Rattle.grid_config_values.specs.declared.position.Position.{Position}
use Rattle.grid_config.specs.Looks.{Look}
use Rattle.grid_records_measure.specs.Measures.{measure}
use Rattle.grid_records_measure.specs.TextLines.{line_feed, line_measure, shown_lines, text_lines}
use Rattle.grid_records_measure.specs.Trimming.{trimmed}
use Rattle.grid_records_measure.proofs.TextLines.{text_lines-shown}
use Rattle.grid_records_traits.specs.Rows.{text_at}
use Rattle.papergrid_picture.specs.CellLines.{cell_lines, cell_measures, kept_lines, those}
use Rattle.papergrid_picture.specs.Tables.{in_bytes}
use Rattle.papergrid_picture.specs.Shown.{AreWholeTexts, IsWholeText, KeepsLineEnds, Styled, cell_item_lines, character_of, in_items, in_plain, item_lines, styled_texts}
use Rattle.papergrid_picture.proofs.Shown.{All-drop, All-take, IsClosedPart, ShowsHere, ShowsHere-nothing, characters-styled, get_or-map, lines-closed_parts, lines-styled, map-same, pieces-nothing, styled_of, those-map, whole-at}

module _ (text : List ℕ) (whole : IsWholeText text) where
  -- the bytes of what the lines show
  lines-shown : map (λ line. encode_utf8_all (map character_of line)) (slice_split (λ x. x.0 == line_feed) (styled_of text)) ≡ shown_lines (pieces text)
  lines-shown =
      ap (map (λ (line : List Styled). encode_utf8_all (map character_of line))) (sym (lines-styled text whole))
      ∙ map-map (λ (line : List Styled). encode_utf8_all (map character_of line)) styled_of (text_lines text)
      ∙ map-same IsClosedPart (λ part. encode_utf8_all (map character_of (styled_of part))) (λ part. strip (pieces part))
      (λ part closed. ap encode_utf8_all (characters-styled part closed.utf8) ∙ encodes-chars (strip (pieces part)) (IsUtf8-shown_text part closed.utf8))
      (text_lines text) (lines-closed_parts text whole)
      ∙ text_lines-shown text whole.whole

  module _ (trim_vertical : Bool) where
    abbrev kept : ℕ × ℕ
    kept = kept_lines trim_vertical (shown_lines (pieces text))

    kept-parts : AllByRecursion IsClosedPart (those kept (text_lines text))
    kept-parts = All-take IsClosedPart kept.1 (drop kept.0 (text_lines text)) (All-drop IsClosedPart kept.0 (text_lines text) (lines-closed_parts text whole))

    item_lines-are : item_lines character_of trim_vertical (styled_of text) ≡ map styled_of (those kept (text_lines text))
    item_lines-are =
        let lines = slice_split (λ (x : Styled). x.0 == line_feed) (styled_of text) in
        ap (λ shown. those (kept_lines trim_vertical shown) lines) lines-shown
        ∙ ap (those kept) (sym (lines-styled text whole))
        ∙ those-map styled_of kept (text_lines text)

    ShowsHere-line : (parts : List (List ℕ)) → AllByRecursion IsClosedPart parts → (k : ℕ) → ShowsHere (get_or parts k []) (get_or (map styled_of parts) k [])
    ShowsHere-line [] all k = ShowsHere-nothing
    ShowsHere-line (part ∷ parts) all zero = record { utf8 = all.0.utf8; closed = all.0.closed; shown = refl }
    ShowsHere-line (part ∷ parts) all (suc k) = ShowsHere-line parts all.1 k

    -- a line of a cell shows its styled characters
    cell_line-shown : (k : ℕ) → ShowsHere (get_or (cell_lines false trim_vertical text) k []) (get_or (item_lines character_of trim_vertical (styled_of text)) k [])
    cell_line-shown k =
        subst (λ (lines : List (List Styled)). ShowsHere (get_or (cell_lines false trim_vertical text) k []) (get_or lines k [])) (sym item_lines-are)
        (subst (λ (lines : List (List ℕ)). ShowsHere (get_or lines k []) (get_or (map styled_of (those kept (text_lines text))) k [])) (sym (map-id (those kept (text_lines text))))
        (ShowsHere-line (those kept (text_lines text)) kept-parts k))
      where
        map-id : (xs : List (List ℕ)) → map (λ line. cond false (trimmed line) line) xs ≡ xs
        map-id [] = refl
        map-id (x ∷ xs) = ap (λ ys. x ∷ ys) (map-id xs)

    -- and measures what they measure
    cell_measures-are : cell_measures false trim_vertical text ≡ map (λ line. measure (map character_of line)) (item_lines character_of trim_vertical (styled_of text))
    cell_measures-are =
        ap (λ shown. map (λ line. line_measure (cond false (trim line) line)) (those kept shown)) (sym (text_lines-shown text whole.whole))
        ∙ ap (map line_measure) (those-map (λ part. strip (pieces part)) kept (text_lines text))
        ∙ map-map line_measure (λ part. strip (pieces part)) (those kept (text_lines text))
        ∙ map-same IsClosedPart (λ part. measure (chars (strip (pieces part)))) (λ part. measure (map character_of (styled_of part)))
        (λ part closed. ap measure (sym (characters-styled part closed.utf8))) (those kept (text_lines text)) kept-parts
        ∙ sym (map-map (λ (line : List Styled). measure (map character_of line)) styled_of (those kept (text_lines text)))
        ∙ ap (map (λ (line : List Styled). measure (map character_of line))) (sym item_lines-are)

module _ (look : Look) (rows : List (List (List ℕ))) (widths heights : List ℕ) (texts : AreWholeTexts rows) (keeps : KeepsLineEnds look) where
  abbrev shown_rows : List (List (List Styled))
  shown_rows = styled_texts rows

  cell-styled : (cell : Position) → get_or (get_or shown_rows cell.row []) cell.col [] ≡ styled_of (text_at rows cell)
  cell-styled cell =
      ap (λ row. get_or row cell.col []) (get_or-map (map styled_of) rows cell.row [])
      ∙ ap (get_or (map styled_of (get_or rows cell.row [])) cell.col) (sym (ap styled pieces-nothing))
      ∙ get_or-map styled_of (get_or rows cell.row []) cell.col []

  lines-are : (cell : Position) → cell_item_lines character_of in_plain look shown_rows cell ≡ item_lines character_of (look.trim_vertical cell) (styled_of (text_at rows cell))
  lines-are cell = ap (item_lines character_of (look.trim_vertical cell)) (cell-styled cell)

  pub line-shown : (cell : Position) (k : ℕ) → ShowsHere ((in_bytes look rows).line cell k) ((in_items character_of in_plain look shown_rows).line cell k)
  line-shown cell k =
      subst (λ (lines : List (List Styled)). ShowsHere ((in_bytes look rows).line cell k) (get_or lines k [])) (sym (lines-are cell))
      (subst (λ (trims : Bool). ShowsHere (get_or (cell_lines trims (look.trim_vertical cell) (text_at rows cell)) k []) (get_or (item_lines character_of (look.trim_vertical cell) (styled_of (text_at rows cell))) k [])) (sym (keeps cell))
      (cell_line-shown (text_at rows cell) (whole-at rows texts cell) (look.trim_vertical cell) k))

  pub measures-are : (cell : Position) → cell_measures (look.trim_horizontal cell) (look.trim_vertical cell) (text_at rows cell)
      ≡ map (λ line. measure (map character_of line)) (cell_item_lines character_of in_plain look shown_rows cell)
  measures-are cell =
      ap (λ trims. cell_measures trims (look.trim_vertical cell) (text_at rows cell)) (keeps cell)
      ∙ cell_measures-are (text_at rows cell) (whole-at rows texts cell) (look.trim_vertical cell)
      ∙ ap (map (λ (line : List Styled). measure (map character_of line))) (sym (lines-are cell))
