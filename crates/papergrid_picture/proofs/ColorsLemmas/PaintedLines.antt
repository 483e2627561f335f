-- The colour of a cell colours each of its lines by itself.
use Rattle.std.proofs.Common.{◌≡◌, ℕ, ◌==◌, true, cond, List, [], ◌∷◌, ◌++◌, Option, map, refl, ap, sym, ◌∙◌, append_assoc, append-nil}
use Rattle.std.specs.Prelude.{flat_map}
use Rattle.std.specs.List.{AllByRecursion, range_with_len}
use Rattle.grid_config_values.specs.declared.position.Position.{Position}
use Rattle.grid_config.specs.Colors.{Color}
use Rattle.papergrid_picture.specs.Frame.{line_count}
use Rattle.papergrid_picture.specs.Blocks.{Content, Fill, Glyph, TextLine, Grid, Part}
use Rattle.papergrid_picture.specs.Picture.{parts_of, picture_line}
use Rattle.papergrid_picture.specs.Reading.{Reading, grid_items, grid_line, line_items, painted}
use Rattle.papergrid_picture.proofs.Reading.{line_items-before, line_items-cons, line_items_no_texts, no_texts, no_texts-append, own_items}
use Rattle.papergrid_picture.specs.Colors.ColoredLines.{with_painted_lines, without_text_colors}
use Rattle.papergrid_picture.proofs.ColorsLemmas.UncoloredGrids.{IsOwn, own-parts, parts-uncolored, uncolored}

module _ {X : Type 0} (reading : Reading X) (grid : Grid) where
  abbrev other : Reading X
  other = with_painted_lines reading grid.text_color

  abbrev part_of : ℕ → Content → Option Color → Part
  part_of width content color = record { width = width; content = content; color = color }

  -- one part more that is no line of a cell
  more : (before : List Part) (part : Part) (parts : List Part) → uncolored part ≡ part
      → line_items reading ((before ++ part ∷ []) ++ parts) ≡ line_items other ((before ++ part ∷ []) ++ map uncolored parts)
      → line_items reading (before ++ part ∷ parts) ≡ line_items other (before ++ uncolored part ∷ map uncolored parts)
  more before part parts same rest =
      ap (line_items reading) (sym (append_assoc before (part ∷ []) parts)) ∙ rest
      ∙ ap (line_items other) (append_assoc before (part ∷ []) (map uncolored parts))
      ∙ ap (λ (p : Part). line_items other (before ++ p ∷ map uncolored parts)) (sym same)

  -- a line of a cell
  text : (before parts : List Part) (width : ℕ) (cell : Position) (k : ℕ) (color : Option Color) → no_texts before ≡ true → color ≡ grid.text_color cell
      → line_items reading parts ≡ line_items other (map uncolored parts)
      → line_items reading (before ++ part_of width (TextLine cell k) color ∷ parts) ≡ line_items other (before ++ uncolored (part_of width (TextLine cell k) color) ∷ map uncolored parts)
  text before parts width cell k color none is rest =
      let here = part_of width (TextLine cell k) color in
      let bare = uncolored here in
      line_items-before reading before (here ∷ parts) refl
      ∙ ap (λ items. items ++ line_items reading (here ∷ parts)) (line_items_no_texts reading other.line before none)
      ∙ ap (λ items. line_items other before ++ items)
      (line_items-cons reading here parts refl
      ∙ ap (λ (c : Option Color). painted reading c (reading.line cell k) ++ line_items reading parts) is
      ∙ ap (λ items. own_items other bare ++ items) rest
      ∙ sym (line_items-cons other bare (map uncolored parts) refl))
      ∙ sym (line_items-before other before (bare ∷ map uncolored parts) refl)

  by-content : (before parts : List Part) (width : ℕ) (content : Content) (color : Option Color) → no_texts before ≡ true → IsOwn grid (part_of width content color)
      → (no_texts (before ++ part_of width content color ∷ []) ≡ true
      → line_items reading ((before ++ part_of width content color ∷ []) ++ parts) ≡ line_items other ((before ++ part_of width content color ∷ []) ++ map uncolored parts))
      → line_items reading parts ≡ line_items other (map uncolored parts)
      → line_items reading (before ++ part_of width content color ∷ parts) ≡ line_items other (before ++ uncolored (part_of width content color) ∷ map uncolored parts)
  by-content before parts width (Fill c) color none is on rest =
      let here = part_of width (Fill c) color in more before here parts refl (on (no_texts-append before (here ∷ []) none refl))
  by-content before parts width (Glyph c) color none is on rest =
      let here = part_of width (Glyph c) color in more before here parts refl (on (no_texts-append before (here ∷ []) none refl))
  by-content before parts width (TextLine cell k) color none is on rest = text before parts width cell k color none is rest

  -- parts after these, which are no lines of cells
  line-same : (before parts : List Part) → no_texts before ≡ true → AllByRecursion (IsOwn grid) parts
      → line_items reading (before ++ parts) ≡ line_items other (before ++ map uncolored parts)
  line-same before [] none own =
      ap (line_items reading) (append-nil before) ∙ line_items_no_texts reading other.line before none ∙ ap (line_items other) (sym (append-nil before))
  line-same before (part ∷ parts) none own =
      by-content before parts part.width part.content part.color none own.0
      (λ more_none. line-same (before ++ part ∷ []) parts more_none own.1)
      (line-same [] parts refl own.1)

  pub grid_line-same : (y : ℕ) → grid_line reading grid y ≡ grid_line other (without_text_colors grid) y
  grid_line-same y =
      line-same [] (parts_of (picture_line grid y)) refl (own-parts grid y)
      ∙ ap (line_items other) (sym (parts-uncolored grid y))

  pub grid_items-same : grid_items reading grid ≡ grid_items other (without_text_colors grid)
  grid_items-same =
      ap (λ (line : ℕ → List X). flat_map (λ y. (cond (y == 0) [] (reading.item 0x0a)) ++ line y) (range_with_len 0 (line_count grid.frame))) (λ i y. grid_line-same y i)
