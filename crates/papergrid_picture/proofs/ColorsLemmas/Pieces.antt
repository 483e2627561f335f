-- A line of a table whose cells have colours is its pieces, each line of a cell in its colour.
use Rattle.std.proofs.Common.{◌≡◌, ℕ, List, [], ◌∷◌, ◌++◌, Option, None, Some, refl, ap, sym, ◌∙◌}
use Rattle.std.specs.Prelude.{encode_utf8, flat_map}
use Rattle.std.proofs.lemmas.List.Folds.{flat_map-map}
use Rattle.grid_config_values.specs.declared.position.Position.{Position}
use Rattle.grid_config.specs.Colors.{Color}
use Rattle.grid_config.specs.Looks.{Look}
use Rattle.papergrid_picture.specs.Blocks.{Grid}
use Rattle.papergrid_picture.specs.Picture.{PlacedPart, parts_of, picture_line}
use Rattle.papergrid_picture.specs.Reading.{Reading, painted, part_items}
use Rattle.papergrid_picture.specs.Shown.{IsBare, BeginsNoSequence, WritesNothing}
use Rattle.papergrid_picture.specs.Tables.{in_bytes, table_grid, table_line}
use Rattle.papergrid_picture.proofs.Related.{related-picture_line}
use Rattle.papergrid_picture.proofs.Shown.{BeginsNoSequence-space}
use Rattle.papergrid_picture.proofs.Widths.{line_items-plain}
use Rattle.papergrid_picture.specs.Colors.ColoredLines.{with_painted_lines}
use Rattle.papergrid_picture.proofs.ColorsLemmas.PaintedLines.{grid_line-same}
use Rattle.papergrid_picture.proofs.ColorsLemmas.Pictures.{bytes-left}

module _ (look : Look) (rows : List (List (List ℕ))) (colors : Position → Option Color) (widths heights : List ℕ) (bare : IsBare look) where
  abbrev reading : Reading ℕ
  reading = with_painted_lines (in_bytes look rows) colors

  abbrev unpainted : Reading ℕ
  unpainted = record { item = encode_utf8; line = reading.line; paint = λ color bytes. bytes }

  stays : (color : Option Color) (bytes : List ℕ) → painted unpainted color bytes ≡ bytes
  stays None bytes = refl
  stays (Some color) [] = refl
  stays (Some color) (b ∷ bs) = refl

  pub line-pieces : (y : ℕ) → table_line look rows colors widths heights y
      ≡ flat_map (λ (piece : PlacedPart). part_items reading piece.part) (picture_line (table_grid look rows (λ _. None) widths heights) y)
  line-pieces y =
      let grid : Grid = table_grid look rows (λ _. None) widths heights in
      grid_line-same (in_bytes look rows) (table_grid look rows colors widths heights) y
      ∙ related-picture_line (λ (a b : List ℕ). a ≡ b) refl (λ a c b d first second. ap (λ bytes. bytes ++ c) first ∙ ap (λ bytes. b ++ bytes) second)
      reading unpainted WritesNothing (λ color a b nothing is. bytes-left look rows colors color a nothing ∙ is ∙ sym (stays color b))
      BeginsNoSequence (λ c shown. refl) BeginsNoSequence-space grid (λ cell k. refl) (λ _. tt) bare.shown bare.no_colors y
      ∙ line_items-plain unpainted stays (parts_of (picture_line grid y))
      ∙ flat_map-map (part_items unpainted) (λ (piece : PlacedPart). piece.part) (picture_line grid y)
