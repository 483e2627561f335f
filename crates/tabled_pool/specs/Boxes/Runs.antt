-- The bytes of a line: neighbouring glyphs of one colour are coloured as one.
use Rattle.std.specs.Prelude.{ℕ, Bool, false, List, [], ◌∷◌, ◌++◌, flat_map, map, if◌then◌else◌}
use Rattle.std.specs.List.{filter}
use Rattle.papergrid_cells.specs.Painting.{without_cells, colored, glyph_part}
use Rattle.papergrid_cells.specs.declared.painting.GlyphRun.{GlyphRun}
use Rattle.papergrid_picture.specs.Blocks.{Part}
use Rattle.papergrid_picture.specs.Reading.{is_glyph, is_drawn, part_items, same_color}
use Rattle.tabled_pool.specs.Boxes.Crossings.{Shape}

abbrev pub goes_on : Shape → Shape → Bool
goes_on a b = if a.joins then (if b.joins then same_color a.color b.color else false) else false

abbrev pub onto_color_runs : Shape → List (List Shape) → List (List Shape)
onto_color_runs shape [] = (shape ∷ []) ∷ []
onto_color_runs shape ([] ∷ runs) = (shape ∷ []) ∷ runs
onto_color_runs shape ((next ∷ run) ∷ runs) = if goes_on shape next then (shape ∷ next ∷ run) ∷ runs else (shape ∷ []) ∷ (next ∷ run) ∷ runs

abbrev pub color_runs : List Shape → List (List Shape)
color_runs [] = []
color_runs (shape ∷ shapes) = onto_color_runs shape (color_runs shapes)

abbrev pub run_bytes : List Shape → List ℕ
run_bytes [] = []
run_bytes (shape ∷ shapes) = colored shape.color (flat_map (λ s. s.bytes) (shape ∷ shapes))

abbrev pub line_bytes : List Shape → List ℕ
line_bytes shapes = flat_map run_bytes (color_runs shapes)

-- ---- as it is printed

-- a part of a boundary line as a shape
abbrev pub part_shape : Part → Shape
part_shape part = record { bytes = part_items without_cells part; color = part.color; joins = is_glyph part.content }

-- glyphs that are held back until it is known where their colour ends
abbrev pub held_shapes : List GlyphRun → List Shape
held_shapes held = map part_shape (filter is_drawn (map glyph_part held))

-- what a text becomes, where these glyphs are held back and these shapes follow
abbrev pub text_with : List ℕ → List GlyphRun → List Shape → List ℕ
text_with out held behind = out ++ line_bytes (held_shapes held ++ behind)
