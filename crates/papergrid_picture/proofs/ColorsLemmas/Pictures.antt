-- The text of a table whose cells have colours shows its picture.
use Rattle.std.proofs.Common.{◌≡◌, ℕ, List, [], ◌∷◌, ◌++◌, Option, None, Some, refl, ap, sym, subst, ◌∙◌, append-nil}
use Rattle.std.specs.Prelude.{IfSome}
use Rattle.ansi_scan.proofs.Uniqueness.{pieces-ArePiecesOf}
use Rattle.ansi_str_search.specs.Text.StyledText.{IsClosed, styled}
use Rattle.grid_config_values.specs.declared.position.Position.{Position}
use Rattle.grid_config.specs.Colors.{Color}
use Rattle.grid_config.specs.Looks.{Look}
use Rattle.papergrid_picture.specs.Frame.{frame_of}
use Rattle.papergrid_picture.specs.Blocks.{Grid}
use Rattle.papergrid_picture.specs.Reading.{Reading, grid_items, painted}
use Rattle.papergrid_picture.specs.Tables.{in_bytes, table_grid, table_text}
use Rattle.papergrid_picture.specs.Shown.{AreWholeTexts, IsBare, BeginsNoSequence, KeepsLineEnds, Shows, Styled, WritesNothing, character_of, in_items, in_plain, styled_texts}
use Rattle.papergrid_picture.proofs.Related.{related-items}
use Rattle.papergrid_picture.proofs.Shown.{BeginsNoSequence-feed, BeginsNoSequence-space, ShowsHere, ShowsHere-append, ShowsHere-character, ShowsHere-nothing}
use Rattle.papergrid_picture.specs.Colors.ClosingColors.{AreClosing, IsClosing}
use Rattle.papergrid_picture.specs.Colors.ColoredLines.{with_painted_lines}
use Rattle.papergrid_picture.specs.Colors.ColoredPicture.{colored_picture, in_colors, line_in}
use Rattle.papergrid_picture.proofs.ColorsLemmas.Cells.{line-shown, measures-are}
use Rattle.papergrid_picture.proofs.ColorsLemmas.Lines.{ShowsHere-painted}
use Rattle.papergrid_picture.proofs.ColorsLemmas.PaintedLines.{grid_items-same}

-- a colour that writes nothing leaves what it colours, in bytes and in items that have their colours
pub bytes-left : (look : Look) (rows : List (List (List ℕ))) (colors : Position → Option Color) (color : Option Color) (bytes : List ℕ) → WritesNothing color
    → painted (with_painted_lines (in_bytes look rows) colors) color bytes ≡ bytes
bytes-left look rows colors None bytes nothing = refl
bytes-left look rows colors (Some color) [] nothing = refl
bytes-left look rows colors (Some color) (b ∷ bs) nothing = ap (λ c. c.prefix ++ (b ∷ bs ++ c.suffix)) nothing ∙ append-nil (b ∷ bs)

module _ (look : Look) (rows : List (List (List ℕ))) (colors : Position → Option Color) where
  pub items-left : (color : Option Color) (items : List Styled) → painted (in_colors look (styled_texts rows) rows colors) color items ≡ items
  items-left None items = refl
  items-left (Some color) [] = refl
  items-left (Some color) (x ∷ xs) = refl

  paint-shown : (color : Option Color) (a : List ℕ) (b : List Styled) → WritesNothing color → ShowsHere a b
      → ShowsHere (painted (with_painted_lines (in_bytes look rows) colors) color a) (painted (in_colors look (styled_texts rows) rows colors) color b)
  paint-shown color a b nothing here =
      subst (ShowsHere (painted (with_painted_lines (in_bytes look rows) colors) color a)) (sym (items-left color b))
      (subst (λ (bytes : List ℕ). ShowsHere bytes b) (sym (bytes-left look rows colors color a nothing)) here)

  module _ (widths heights : List ℕ) (bare : IsBare look) (texts : AreWholeTexts rows) (keeps : KeepsLineEnds look) (closing : AreClosing colors) where
    abbrev first : Reading ℕ
    first = with_painted_lines (in_bytes look rows) colors

    abbrev second : Reading Styled
    second = in_colors look (styled_texts rows) rows colors

    line-colored : (cell : Position) (k : ℕ) → ShowsHere (first.line cell k) (second.line cell k)
    line-colored cell k = by (colors cell) (closing cell)
      where
        by : (color : Option Color) → IfSome color IsClosing → ShowsHere (painted (in_bytes look rows) color ((in_bytes look rows).line cell k)) (line_in color ((in_bytes look rows).line cell k) ((in_items character_of in_plain look (styled_texts rows)).line cell k))
        by None is = line-shown look rows widths heights texts keeps cell k
        by (Some color) is =
            ShowsHere-painted color is look rows ((in_bytes look rows).line cell k) ((in_items character_of in_plain look (styled_texts rows)).line cell k)
            (line-shown look rows widths heights texts keeps cell k)

    abbrev with_measures : (Position → List ℕ) → Grid
    with_measures measures = record { frame = frame_of look widths heights; measures = measures; text_color = λ _. None }

    in-lines : ShowsHere (grid_items first (table_grid look rows (λ _. None) widths heights)) (colored_picture look (styled_texts rows) rows colors widths heights)
    in-lines =
        subst (λ (measures : Position → List ℕ). ShowsHere (grid_items first (table_grid look rows (λ _. None) widths heights)) (grid_items second (with_measures measures)))
        (λ n cell. measures-are look rows widths heights texts keeps cell n)
        (related-items ShowsHere ShowsHere-nothing ShowsHere-append first second WritesNothing paint-shown
        BeginsNoSequence ShowsHere-character BeginsNoSequence-space (table_grid look rows (λ _. None) widths heights)
        line-colored (λ _. tt) bare.shown bare.no_colors BeginsNoSequence-feed)

    pub text-colored : ShowsHere (table_text look rows colors widths heights) (colored_picture look (styled_texts rows) rows colors widths heights)
    text-colored =
        subst (λ (bytes : List ℕ). ShowsHere bytes (colored_picture look (styled_texts rows) rows colors widths heights))
        (sym (grid_items-same (in_bytes look rows) (table_grid look rows colors widths heights))) in-lines

    pub table-colored : Shows (table_text look rows colors widths heights) (colored_picture look (styled_texts rows) rows colors widths heights)
    table-colored =
        let bytes = table_text look rows colors widths heights in
        record {
          text = text-colored.utf8;
          shown = λ ps of_bytes. ap styled (sym (pieces-ArePiecesOf bytes ps of_bytes)) ∙ text-colored.shown;
          closed = λ ps of_bytes. subst IsClosed (pieces-ArePiecesOf bytes ps of_bytes) text-colored.closed;
        }
