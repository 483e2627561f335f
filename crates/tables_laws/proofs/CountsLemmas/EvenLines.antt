-- Each line of a table whose texts add up takes the columns of the table.
use Rattle.std.proofs.Common.{◌≡◌, ℕ, Bool, true, List, [], ◌∷◌, Option, None, Some, refl, ap, sym, subst, ◌∙◌, arith}
use Rattle.std.specs.Prelude.{chars, encode_utf8, flat_map, slice_index}
use Rattle.std.specs.List.{AllByRecursion, list_all, sum_by}
use Rattle.ansi_scan.specs.Pieces.{pieces}
use Rattle.ansi_scan.specs.Sequences.{NoneBroken}
use Rattle.ansi_str.specs.Characters.{shown_chars}
use Rattle.grid_config.specs.Colors.{Color}
use Rattle.grid_config.specs.Looks.{Look}
use Rattle.grid_config_values.specs.declared.spans.extent.Extent.{Extent}
use Rattle.grid_config_values.specs.declared.position.Position.{Position}
use Rattle.grid_records_traits.specs.Rows.{text_at}
use Rattle.papergrid_picture.specs.Colors.ClosingColors.{ShowNothing}
use Rattle.papergrid_picture.specs.Colors.ColoredLines.{with_painted_lines}
use Rattle.papergrid_picture.proofs.ColorsLemmas.PaintedLines.{grid_line-same}
use Rattle.papergrid_picture.proofs.ColorsLemmas.Stripped.{AreSame, AreSame-append, AreSame-character, AreSame-nothing, around}
use Rattle.papergrid_picture.specs.Blocks.{Grid, Part}
use Rattle.papergrid_picture.specs.Frame.{frame_of, full_line_width}
use Rattle.papergrid_picture.specs.Picture.{parts_of, picture_line}
use Rattle.papergrid_picture.specs.Reading.{Reading, grid_line, painted, part_items}
use Rattle.papergrid_picture.specs.Shown.{BeginsNoSequence, IsColoredBy, ShowsOnly}
use Rattle.papergrid_picture.specs.Tables.{in_bytes, in_color, table_grid, table_line}
use Rattle.papergrid_picture.specs.Tiling.{HasGoodSpans, HasRoom}
use Rattle.papergrid_picture.proofs.Related.{parts-hold, related-picture_line}
use Rattle.papergrid_picture.proofs.Shown.{BeginsNoSequence-space}
use Rattle.papergrid_picture.proofs.Stripped.{Leaves}
use Rattle.papergrid_picture.proofs.Tiling.{Tiles-picture, widths_of}
use Rattle.papergrid_picture.proofs.Wide.{Tiles-widths}
use Rattle.papergrid_picture.proofs.Widths.{line_items-plain}
use Rattle.tables_laws.specs.Grids.CountedLooks.{IsSilent}
use Rattle.tables_laws.proofs.CountsLemmas.Counts.{Counts, Counts-append, Counts-fill, Counts-nothing, CountsOne, TextAdds, cell_line-counts}
use Rattle.tables_laws.proofs.ShownLemmas.Looks.{shows-also}

-- ---- colours that are sequences alone show nothing

through : (c a b : List ℕ) → AreSame c a → AreSame a b → AreSame c b
through c a b first second = record { one = subst (Leaves c) second.one.left first.one; other = second.other }

module _ (line : Position → ℕ → List ℕ) where
  abbrev in_color_of : Reading ℕ
  in_color_of = record { item = encode_utf8; line = line; paint = in_color }

  paint-same : (color : Option Color) (a b : List ℕ) → IsSilent color → AreSame a b → AreSame (painted in_color_of color a) b
  paint-same None a b silent same = same
  paint-same (Some color) [] b silent same = same
  paint-same (Some color) (x ∷ xs) b silent same = through (in_color color (x ∷ xs)) (x ∷ xs) b (around color silent (x ∷ xs) same.one.whole) same

-- ---- a table

-- what a line shows: characters of the class, of so many columns
pub record LineCounts (count : ℕ → ℕ) (of_class : ℕ → Bool) (columns : ℕ) (line : List ℕ) : Type 0 where
  pub counted : sum_by count (shown_chars line) ≡ columns
  pub shown : list_all of_class (shown_chars line) ≡ true

module _ (count : ℕ → ℕ) (q : ℕ → Bool) (space_one : count 0x20 ≡ 1) (space : q 0x20 ≡ true)
    (look : Look) (rows : List (List (List ℕ))) (colors : Position → Option Color) (widths heights : List ℕ)
    (ones : ShowsOnly (CountsOne count q) look) (colored : IsColoredBy IsSilent look) (silent : ShowNothing colors)
    (adds : (cell : Position) → TextAdds count q (look.trim_horizontal cell) (text_at rows cell)) where
  abbrev grid : Grid
  grid = table_grid look rows (λ _. None) widths heights

  abbrev first : Reading ℕ
  first = with_painted_lines (in_bytes look rows) colors

  abbrev unpainted : Reading ℕ
  unpainted = record { item = encode_utf8; line = (in_bytes look rows).line; paint = λ color bytes. bytes }

  stays : (color : Option Color) (bytes : List ℕ) → painted unpainted color bytes ≡ bytes
  stays None bytes = refl
  stays (Some color) [] = refl
  stays (Some color) (b ∷ bs) = refl

  line-counts : (cell : Position) (k : ℕ) → Counts count q ((in_bytes look rows).line cell k) (slice_index (grid.measures cell) k)
  line-counts cell k = cell_line-counts count q (text_at rows cell) (look.trim_horizontal cell) (look.trim_vertical cell) (adds cell) k

  itself : (bytes : List ℕ) → NoneBroken (pieces bytes) → AreSame bytes bytes
  itself bytes whole = record { one = record { whole = whole; left = refl }; other = record { whole = whole; left = refl } }

  line-same : (cell : Position) (k : ℕ) → AreSame (first.line cell k) (unpainted.line cell k)
  line-same cell k =
      let bytes = (in_bytes look rows).line cell k in
      paint-same (in_bytes look rows).line (colors cell) bytes bytes (silent cell) (itself bytes (line-counts cell k).whole)

  paint-both : (color : Option Color) (a b : List ℕ) → IsSilent color → AreSame a b → AreSame (painted first color a) (painted unpainted color b)
  paint-both color a b silent same = subst (AreSame (painted first color a)) (sym (stays color b)) (paint-same first.line color a b silent same)

  unpainted-same : (y : ℕ) → AreSame (table_line look rows colors widths heights y) (grid_line unpainted grid y)
  unpainted-same y =
      subst (λ (bytes : List ℕ). AreSame bytes (grid_line unpainted grid y)) (sym (grid_line-same (in_bytes look rows) (table_grid look rows colors widths heights) y))
      (related-picture_line AreSame AreSame-nothing AreSame-append first unpainted IsSilent paint-both
      BeginsNoSequence AreSame-character BeginsNoSequence-space grid line-same (λ _. tt) (shows-also (CountsOne count q) BeginsNoSequence (λ c is. is.begins) look ones) colored y)

  -- ---- the parts of a line

  space-counts : CountsOne count q 0x20
  space-counts = record { begins = BeginsNoSequence-space; one = space_one; inside = space }

  abbrev PartCounts : Part → Type 0
  PartCounts part = Counts count q (part_items unpainted part) part.width

  parts-count : (y : ℕ) → AllByRecursion PartCounts (parts_of (picture_line grid y))
  parts-count y =
      parts-hold PartCounts (CountsOne count q) IsSilent grid space-counts
      (λ width c color of_c of_color. Counts-fill count q width c of_c)
      (λ width c color of_c of_color. Counts-fill count q width c of_c)
      line-counts ones colored y

  all-count : (parts : List Part) → AllByRecursion PartCounts parts → Counts count q (flat_map (part_items unpainted) parts) (widths_of parts)
  all-count [] all = Counts-nothing count q
  all-count (part ∷ parts) all = Counts-append count q (part_items unpainted part) (flat_map (part_items unpainted) parts) part.width (widths_of parts) all.0 (all-count parts all.1)

  pub line-even : (spans : List (Position × Extent)) (y : ℕ) → HasGoodSpans grid spans → HasRoom grid →
      LineCounts count q (full_line_width (frame_of look widths heights)) (table_line look rows colors widths heights y)
  line-even spans y good room =
      let parts = parts_of (picture_line grid y) in
      let tiled = Tiles-widths 0 (full_line_width grid.frame) (picture_line grid y) (Tiles-picture grid spans good room refl y) in
      let counts = all-count parts (parts-count y) in
      let same : shown_chars (table_line look rows colors widths heights y) ≡ shown_chars (flat_map (part_items unpainted) parts) =
      ap chars (unpainted-same y).one.left ∙ ap shown_chars (line_items-plain unpainted stays parts) in
      record {
        counted = ap (sum_by count) same ∙ counts.counted ∙ omega (arith, tiled);
        shown = ap (list_all q) same ∙ counts.shown;
      }
