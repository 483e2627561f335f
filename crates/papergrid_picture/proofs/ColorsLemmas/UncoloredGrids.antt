-- The picture of a grid without the colours of its cells' texts is the picture of the grid, its lines of text
-- uncoloured.
use Rattle.std.proofs.Common.{◌≡◌, ℕ, zero, suc, ◌+◌, ◌-◌, ◌==◌, Bool, true, false, cond, List, [], ◌∷◌, ◌++◌, Option, None, map, length, replicate, get_or, refl, ap, sym, ◌∙◌}
use Rattle.std.specs.Prelude.{flat_map, nat_lt, unwrap_or}
use Rattle.std.specs.List.{AllByRecursion, range_with_len}
use Rattle.std.proofs.lemmas.List.{map-append}
use Rattle.std.proofs.lemmas.Simd.{map-map}
use Rattle.grid_config_values.specs.declared.position.Position.{Position}
use Rattle.grid_config_values.specs.Glyphs.{boundary_kind, crossing, in_row}
use Rattle.grid_config.specs.Colors.{Color}
use Rattle.papergrid_picture.specs.Frame.{LineKind, Boundary, Row, InMargin, block_height, block_width, boundary_at, column_count, line_kind, row_count, track_at}
use Rattle.papergrid_picture.specs.Blocks.{Content, Fill, Glyph, TextLine, Grid, Part, block, fill, free_above, text_line}
use Rattle.papergrid_picture.specs.Picture.{PlacedPart, across, along, block_parts, boundary_part, crossing_at, laid, margin_line, parts_of, picture_line, placed_parts_at, row_part, seen, upright, blank}
use Rattle.papergrid_picture.proofs.Items.{Anything, colored-anyhow, shows-anything}
use Rattle.papergrid_picture.proofs.Related.{parts-hold}
use Rattle.papergrid_picture.proofs.Shown.{get_or-map}
use Rattle.papergrid_picture.specs.Colors.ColoredLines.{without_text_colors}

-- the colour of content, but of a line of a cell none
abbrev pub kept_color : Content → Option Color → Option Color
kept_color (Fill c) color = color
kept_color (Glyph c) color = color
kept_color (TextLine cell k) color = None

-- a part, a piece and pieces without the colours of texts
abbrev pub uncolored : Part → Part
uncolored part = record part { color = kept_color part.content part.color }

abbrev pub uncolored_piece : PlacedPart → PlacedPart
uncolored_piece piece = record piece { part = uncolored piece.part }

abbrev pub uncolored_pieces : List PlacedPart → List PlacedPart
uncolored_pieces pieces = map uncolored_piece pieces

map-replicate : {A B : Type 0} (f : A → B) (n : ℕ) (x : A) → map f (replicate n x) ≡ replicate n (f x)
map-replicate f zero x = refl
map-replicate f (suc n) x = ap (λ ys. f x ∷ ys) (map-replicate f n x)

map-flat_map : {A B C : Type 0} (f : B → C) (g : A → List B) (xs : List A) → map f (flat_map g xs) ≡ flat_map (λ x. map f (g x)) xs
map-flat_map f g [] = refl
map-flat_map f g (x ∷ xs) = map-append f (g x) (flat_map g xs) ∙ ap (λ ys. map f (g x) ++ ys) (map-flat_map f g xs)

map-both : {A B : Type 0} (f : A → B) (xs ys : List A) (zs ws : List B) → map f xs ≡ zs → map f ys ≡ ws → map f (xs ++ ys) ≡ zs ++ ws
map-both f xs ys zs ws first second = map-append f xs ys ∙ ap (λ us. us ++ map f ys) first ∙ ap (λ us. zs ++ us) second

flat_map-same : {A B : Type 0} (f g : A → List B) → ((x : A) → f x ≡ g x) → (xs : List A) → flat_map f xs ≡ flat_map g xs
flat_map-same f g same xs = ap (λ h. flat_map h xs) (λ i x. same x i)

laid-uncolored : (left : ℕ) (parts : List Part) → uncolored_pieces (laid left parts) ≡ laid left (map uncolored parts)
laid-uncolored left [] = refl
laid-uncolored left (part ∷ parts) = ap (λ pieces. record { left = left; part = uncolored part } ∷ pieces) (laid-uncolored (left + part.width) parts)

if-uncolored : (b : Bool) (pieces : List PlacedPart) (others : List PlacedPart) → uncolored_pieces pieces ≡ others → uncolored_pieces (cond b pieces []) ≡ cond b others []
if-uncolored true pieces others same = same
if-uncolored false pieces others same = refl

module _ (grid : Grid) where
  abbrev bare_grid : Grid
  bare_grid = without_text_colors grid

  text_line-uncolored : (cell : Position) (width k : ℕ) → map uncolored (text_line grid cell width k) ≡ text_line bare_grid cell width k
  text_line-uncolored cell width k = refl

  block-uncolored : (cell : Position) (width height : ℕ) → map (map uncolored) (block grid cell width height) ≡ block bare_grid cell width height
  block-uncolored cell width height =
      let look = grid.frame.look in
      let padding = look.padding cell in
      let color = look.padding_color cell in
      let count = length (grid.measures cell) in
      let free = height - padding.top.size - count - padding.bottom.size in
      let above = free_above (look.alignment_vertical cell) free in
      let line : ℕ → List Part = text_line grid cell width in
      let each : List Part → List Part = map uncolored in
      map-both each _ _ _ _ (map-replicate each padding.top.size (fill width padding.top.fill color.top ∷ []))
      (map-both each _ _ _ _ (map-replicate each above (line count))
      (map-both each _ _ _ _ (map-map each line (range_with_len 0 count))
      (map-both each _ _ _ _ (map-replicate each (free - above) (line count))
      (map-replicate each padding.bottom.size (fill width padding.bottom.fill color.bottom ∷ [])))))

  block_parts-uncolored : (cell : Position) (y : ℕ) → uncolored_pieces (block_parts grid cell y) ≡ block_parts bare_grid cell y
  block_parts-uncolored cell y =
      let width = block_width grid.frame cell in
      let height = block_height grid.frame cell in
      let k = y - track_at grid.frame.rows cell.row in
      let left = track_at grid.frame.columns cell.col in
      laid-uncolored left (get_or (block grid cell width height) k [])
      ∙ ap (laid left) (sym (get_or-map (map uncolored) (block grid cell width height) k []))
      ∙ ap (λ (lines : List (List Part)). laid left (get_or lines k [])) (block-uncolored cell width height)

  upright-uncolored : (j : ℕ) → uncolored_pieces (upright grid j) ≡ upright bare_grid j
  upright-uncolored j =
      let kind = boundary_kind j (column_count grid.frame) in
      let one = laid (boundary_at grid.frame.columns j) (record { width = 1; content = Fill (unwrap_or (in_row grid.frame.look.borders kind) blank); color = in_row grid.frame.look.borders_color kind } ∷ []) in
      if-uncolored (grid.frame.columns.has_boundary j) one one refl

  corner-uncolored : (i j : ℕ) → uncolored_pieces (crossing_at grid i j) ≡ crossing_at bare_grid i j
  corner-uncolored i j =
      let row = boundary_kind i (row_count grid.frame) in
      let column = boundary_kind j (column_count grid.frame) in
      let one = laid (boundary_at grid.frame.columns j) (record { width = 1; content = Glyph (unwrap_or (crossing grid.frame.look.borders row column) blank); color = crossing grid.frame.look.borders_color row column } ∷ []) in
      if-uncolored (grid.frame.columns.has_boundary j) one one refl

  row_part-uncolored : (i y j : ℕ) → uncolored_pieces (row_part grid i y j) ≡ row_part bare_grid i y j
  row_part-uncolored i y j =
      let cell = seen grid i j in
      if-uncolored (cell.col == j) (upright grid j ++ block_parts grid cell y) (upright bare_grid j ++ block_parts bare_grid cell y)
      (map-both uncolored_piece (upright grid j) (block_parts grid cell y) (upright bare_grid j) (block_parts bare_grid cell y) (upright-uncolored j) (block_parts-uncolored cell y))

  boundary_part-uncolored : (i y j : ℕ) → uncolored_pieces (boundary_part grid i y j) ≡ boundary_part bare_grid i y j
  boundary_part-uncolored i y j = by (nat_lt cell.row i)
    where
      cell : Position
      cell = seen grid i j

      by : (b : Bool) → uncolored_pieces (cond b (cond (cell.col == j) (crossing_at grid i j ++ block_parts grid cell y) []) (crossing_at grid i j ++ along grid i j))
          ≡ cond b (cond (cell.col == j) (crossing_at bare_grid i j ++ block_parts bare_grid cell y) []) (crossing_at bare_grid i j ++ along bare_grid i j)
      by true =
          if-uncolored (cell.col == j) (crossing_at grid i j ++ block_parts grid cell y) (crossing_at bare_grid i j ++ block_parts bare_grid cell y)
          (map-both uncolored_piece (crossing_at grid i j) (block_parts grid cell y) (crossing_at bare_grid i j) (block_parts bare_grid cell y) (corner-uncolored i j) (block_parts-uncolored cell y))
      by false = map-both uncolored_piece (crossing_at grid i j) (along grid i j) (crossing_at bare_grid i j) (along bare_grid i j) (corner-uncolored i j) refl

  across-uncolored : (part bare : ℕ → List PlacedPart) (last behind : List PlacedPart) → ((j : ℕ) → uncolored_pieces (part j) ≡ bare j) → uncolored_pieces last ≡ behind
      → uncolored_pieces (across grid part last) ≡ across bare_grid bare behind
  across-uncolored part bare last behind each end =
      let margin = grid.frame.look.margin in
      let color = grid.frame.look.margin_color in
      let js = range_with_len 0 (column_count grid.frame) in
      let left = laid 0 (fill margin.left.size margin.left.fill color.left ∷ []) in
      let right = laid (track_at grid.frame.columns (column_count grid.frame)) (fill margin.right.size margin.right.fill color.right ∷ []) in
      map-both uncolored_piece left (flat_map part js ++ (last ++ right)) left (flat_map bare js ++ (behind ++ right)) refl
      (map-both uncolored_piece (flat_map part js) (last ++ right) (flat_map bare js) (behind ++ right)
      (map-flat_map uncolored_piece part js ∙ flat_map-same (λ j. uncolored_pieces (part j)) bare each js)
      (map-both uncolored_piece last right behind right end refl))

  pieces-uncolored : (p : LineKind) (y : ℕ) → uncolored_pieces (placed_parts_at grid p y) ≡ placed_parts_at bare_grid p y
  pieces-uncolored (Boundary i) y =
      across-uncolored (boundary_part grid i y) (boundary_part bare_grid i y) (crossing_at grid i (column_count grid.frame)) (crossing_at bare_grid i (column_count grid.frame))
      (boundary_part-uncolored i y) (corner-uncolored i (column_count grid.frame))
  pieces-uncolored (Row i) y =
      across-uncolored (row_part grid i y) (row_part bare_grid i y) (upright grid (column_count grid.frame)) (upright bare_grid (column_count grid.frame))
      (row_part-uncolored i y) (upright-uncolored (column_count grid.frame))
  pieces-uncolored InMargin y = by (nat_lt y grid.frame.rows.margin)
    where
      by : (b : Bool) → uncolored_pieces (cond b (margin_line grid grid.frame.look.margin.top grid.frame.look.margin_color.top) (margin_line grid grid.frame.look.margin.bottom grid.frame.look.margin_color.bottom))
          ≡ cond b (margin_line bare_grid grid.frame.look.margin.top grid.frame.look.margin_color.top) (margin_line bare_grid grid.frame.look.margin.bottom grid.frame.look.margin_color.bottom)
      by true = refl
      by false = refl

  -- the parts of a line, without the colours of texts
  pub parts-uncolored : (y : ℕ) → parts_of (picture_line bare_grid y) ≡ map uncolored (parts_of (picture_line grid y))
  parts-uncolored y =
      ap parts_of (sym (pieces-uncolored (line_kind grid.frame.rows y) y))
      ∙ map-map (λ (piece : PlacedPart). piece.part) uncolored_piece (picture_line grid y)
      ∙ sym (map-map uncolored (λ (piece : PlacedPart). piece.part) (picture_line grid y))

  -- ---- the colours of texts

  -- a line of a cell has the cell's colour
  abbrev pub HasOwnColor : Content → Option Color → Type 0
  HasOwnColor (Fill c) color = Unit {0}
  HasOwnColor (Glyph c) color = Unit {0}
  HasOwnColor (TextLine cell k) color = color ≡ grid.text_color cell

  abbrev pub IsOwn : Part → Type 0
  IsOwn part = HasOwnColor part.content part.color

  pub own-parts : (y : ℕ) → AllByRecursion IsOwn (parts_of (picture_line grid y))
  own-parts y = parts-hold IsOwn Anything Anything grid tt (λ width c color _ _. tt) (λ width c color _ _. tt) (λ cell k. refl) (shows-anything grid.frame.look) (colored-anyhow grid.frame.look) y
