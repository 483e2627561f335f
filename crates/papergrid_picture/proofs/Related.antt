-- What holds of all parts of a picture, and two readings of one picture.
use Rattle.std.proofs.Common.{ℕ, zero, suc, ◌+◌, ◌-◌, ◌==◌, Bool, true, false, cond, List, [], ◌∷◌, ◌++◌, Option, None, Some, map, length, replicate, get_or}
use Rattle.std.specs.Prelude.{flat_map, nat_lt, unwrap_or, slice_index, IfSome}
use Rattle.std.specs.List.{AllByRecursion, filter, range_with_len}
use Rattle.grid_config_values.specs.declared.position.Position.{Position}
use Rattle.grid_config_values.specs.declared.sides.Indent.{Indent}
use Rattle.grid_config_values.specs.Glyphs.{along_column, boundary_kind, crossing, in_row}
use Rattle.grid_config.specs.Colors.{Color}
use Rattle.papergrid_picture.specs.Frame.{LineKind, Boundary, Row, InMargin, block_height, block_width, boundary_at, column_count, line_count, line_kind, row_count, track_at}
use Rattle.papergrid_picture.specs.Blocks.{Fill, Glyph, TextLine, Grid, Part, block, fill, free_above, free_left, greatest, text_line}
use Rattle.papergrid_picture.specs.Picture.{PlacedPart, across, along, block_parts, boundary_part, crossing_at, laid, margin_line, parts_of, picture_line, placed_parts_at, row_part, seen, upright, blank}
use Rattle.papergrid_picture.specs.Reading.{Reading, color_runs, continues, grid_items, is_drawn, line_items, onto_color_runs, painted, part_items, run_items}
use Rattle.papergrid_picture.specs.Shown.{IsColoredBy, ShowsOnly}

-- ---- what holds of each element

pub All-append : {A : Type 0} (P : A → Type 0) (xs ys : List A) → AllByRecursion P xs → AllByRecursion P ys → AllByRecursion P (xs ++ ys)
All-append P [] ys first second = second
All-append P (x ∷ xs) ys first second = (first.0, All-append P xs ys first.1 second)

All-flat_map : {A B : Type 0} (P : B → Type 0) (f : A → List B) → ((x : A) → AllByRecursion P (f x)) → (xs : List A) → AllByRecursion P (flat_map f xs)
All-flat_map P f each [] = tt
All-flat_map P f each (x ∷ xs) = All-append P (f x) (flat_map f xs) (each x) (All-flat_map P f each xs)

pub All-map : {A B : Type 0} (P : B → Type 0) (f : A → B) → ((x : A) → P (f x)) → (xs : List A) → AllByRecursion P (map f xs)
All-map P f each [] = tt
All-map P f each (x ∷ xs) = (each x, All-map P f each xs)

pub All-map_of : {A B : Type 0} (Q : A → Type 0) (P : B → Type 0) (f : A → B) → ((x : A) → Q x → P (f x)) → (xs : List A) → AllByRecursion Q xs → AllByRecursion P (map f xs)
All-map_of Q P f each [] all = tt
All-map_of Q P f each (x ∷ xs) all = (each x all.0, All-map_of Q P f each xs all.1)

pub All-replicate : {A : Type 0} (P : A → Type 0) (n : ℕ) (x : A) → P x → AllByRecursion P (replicate n x)
All-replicate P zero x here = tt
All-replicate P (suc n) x here = (here, All-replicate P n x here)

pub All-get_or : {A : Type 0} (P : A → Type 0) (xs : List A) (i : ℕ) (d : A) → AllByRecursion P xs → P d → P (get_or xs i d)
All-get_or P [] i d all default = default
All-get_or P (x ∷ xs) zero d all default = all.0
All-get_or P (x ∷ xs) (suc i) d all default = All-get_or P xs i d all.1 default

either : {A : Type 0} (P : A → Type 0) (b : Bool) (x y : A) → P x → P y → P (cond b x y)
either P true x y first second = first
either P false x y first second = second

-- ---- the lines of a block

-- what holds of the lines of padding and of the lines of text holds of all lines
pub block-all : (P : List Part → Type 0) (grid : Grid) (cell : Position) (width : ℕ)
    → P (fill width (grid.frame.look.padding cell).top.fill (grid.frame.look.padding_color cell).top ∷ [])
    → P (fill width (grid.frame.look.padding cell).bottom.fill (grid.frame.look.padding_color cell).bottom ∷ [])
    → ((k : ℕ) → P (text_line grid cell width k)) → (height : ℕ) → AllByRecursion P (block grid cell width height)
block-all P grid cell width above_all below_all texts height =
    let look = grid.frame.look in
    let padding = look.padding cell in
    let color = look.padding_color cell in
    let count = length (grid.measures cell) in
    let free = height - padding.top.size - count - padding.bottom.size in
    let above = free_above (look.alignment_vertical cell) free in
    let line = text_line grid cell width in
    let top = replicate padding.top.size (fill width padding.top.fill color.top ∷ []) in
    let blanks = replicate above (line count) in
    let lines = map line (range_with_len 0 count) in
    let behind = replicate (free - above) (line count) in
    let bottom = replicate padding.bottom.size (fill width padding.bottom.fill color.bottom ∷ []) in
    All-append P top (blanks ++ (lines ++ (behind ++ bottom))) (All-replicate P padding.top.size (fill width padding.top.fill color.top ∷ []) above_all)
    (All-append P blanks (lines ++ (behind ++ bottom)) (All-replicate P above (line count) (texts count))
    (All-append P lines (behind ++ bottom) (All-map P line texts (range_with_len 0 count))
    (All-append P behind bottom (All-replicate P (free - above) (line count) (texts count))
    (All-replicate P padding.bottom.size (fill width padding.bottom.fill color.bottom ∷ []) below_all))))

-- ---- the parts of a picture

module _ (P : Part → Type 0) (C : ℕ → Type 0) (Q : Option Color → Type 0) (grid : Grid) (space : C blank)
    (fills : (width c : ℕ) (color : Option Color) → C c → Q color → P (fill width c color))
    (glyphs : (width c : ℕ) (color : Option Color) → C c → Q color → P (record { width = width; content = Glyph c; color = color }))
    (texts : (cell : Position) (k : ℕ) → P (record { width = slice_index (grid.measures cell) k; content = TextLine cell k; color = grid.text_color cell }))
    (shown : ShowsOnly C grid.frame.look) (colored : IsColoredBy Q grid.frame.look) where
  abbrev Holds : List Part → Type 0
  Holds parts = AllByRecursion P parts

  abbrev InPieces : List PlacedPart → Type 0
  InPieces pieces = AllByRecursion (λ piece. P piece.part) pieces

  laid-holds : (left : ℕ) (parts : List Part) → Holds parts → InPieces (laid left parts)
  laid-holds left [] all = tt
  laid-holds left (part ∷ parts) all = (all.0, laid-holds (left + part.width) parts all.1)

  text_line-holds : (cell : Position) (width k : ℕ) → Holds (text_line grid cell width k)
  text_line-holds cell width k =
      let look = grid.frame.look in
      let padding = look.padding cell in
      let color = look.padding_color cell in
      let fill_shown = shown.paddings cell in
      let fill_colored = colored.paddings cell in
      let measure = slice_index (grid.measures cell) k in
      let room = width - padding.left.size - padding.right.size in
      let free_before = free_left (look.alignment_horizontal cell) (room - (cond (look.line_alignment cell) measure (greatest (grid.measures cell)))) in (
        fills padding.left.size padding.left.fill color.left fill_shown.0 fill_colored.0,
        (
          fills free_before (look.justification cell) (look.justification_color cell) (shown.justification cell) (colored.justification cell),
          (
            texts cell k,
            (
              fills (room - free_before - measure) (look.justification cell) (look.justification_color cell) (shown.justification cell) (colored.justification cell),
              (fills padding.right.size padding.right.fill color.right fill_shown.1 fill_colored.1, tt),
            ),
          ),
        ),
      )

  block-holds : (cell : Position) (width height : ℕ) → AllByRecursion Holds (block grid cell width height)
  block-holds cell width height =
      let padding = grid.frame.look.padding cell in
      let color = grid.frame.look.padding_color cell in
      let in_cell = shown.paddings cell in
      let of_cell = colored.paddings cell in
      block-all Holds grid cell width (fills width padding.top.fill color.top in_cell.2 of_cell.2, tt) (fills width padding.bottom.fill color.bottom in_cell.3 of_cell.3, tt)
      (text_line-holds cell width) height

  block_parts-hold : (cell : Position) (y : ℕ) → InPieces (block_parts grid cell y)
  block_parts-hold cell y =
      let width = block_width grid.frame cell in
      let height = block_height grid.frame cell in
      laid-holds (track_at grid.frame.columns cell.col) (get_or (block grid cell width height) (y - track_at grid.frame.rows cell.row) [])
      (All-get_or Holds (block grid cell width height) (y - track_at grid.frame.rows cell.row) [] (block-holds cell width height) tt)

  -- a glyph, or a space where it isn't set
  glyph-shown : (glyph : Option ℕ) → IfSome glyph C → C (unwrap_or glyph blank)
  glyph-shown None set = space
  glyph-shown (Some c) set = set

  if-there : (b : Bool) (pieces : List PlacedPart) → InPieces pieces → InPieces (cond b pieces [])
  if-there b pieces all = either InPieces b pieces [] all tt

  upright-holds : (j : ℕ) → InPieces (upright grid j)
  upright-holds j =
      let look = grid.frame.look in
      let kind = boundary_kind j (column_count grid.frame) in
      let c = unwrap_or (in_row look.borders kind) blank in
      let color = in_row look.borders_color kind in
      if-there (grid.frame.columns.has_boundary j) (laid (boundary_at grid.frame.columns j) (record { width = 1; content = Fill c; color = color } ∷ []))
      (fills 1 c color (glyph-shown (in_row look.borders kind) (shown.in_rows kind)) (colored.in_rows kind), tt)

  corner-holds : (i j : ℕ) → InPieces (crossing_at grid i j)
  corner-holds i j =
      let look = grid.frame.look in
      let row = boundary_kind i (row_count grid.frame) in
      let column = boundary_kind j (column_count grid.frame) in
      let c = unwrap_or (crossing look.borders row column) blank in
      let color = crossing look.borders_color row column in
      if-there (grid.frame.columns.has_boundary j) (laid (boundary_at grid.frame.columns j) (record { width = 1; content = Glyph c; color = color } ∷ []))
      (glyphs 1 c color (glyph-shown (crossing look.borders row column) (shown.crossings row column)) (colored.crossings row column), tt)

  along-holds : (i j : ℕ) → InPieces (along grid i j)
  along-holds i j =
      let look = grid.frame.look in
      let kind = boundary_kind i (row_count grid.frame) in (
        glyphs (slice_index grid.frame.columns.sizes j) (unwrap_or (along_column look.borders kind) blank) (along_column look.borders_color kind)
            (glyph-shown (along_column look.borders kind) (shown.along_columns kind)) (colored.along_columns kind),
        tt,
      )

  row_part-holds : (i y j : ℕ) → InPieces (row_part grid i y j)
  row_part-holds i y j =
      let cell = seen grid i j in
      if-there (cell.col == j) (upright grid j ++ block_parts grid cell y)
      (All-append (λ piece. P piece.part) (upright grid j) (block_parts grid cell y) (upright-holds j) (block_parts-hold cell y))

  boundary_part-holds : (i y j : ℕ) → InPieces (boundary_part grid i y j)
  boundary_part-holds i y j =
      let cell = seen grid i j in
      let goes_on = cond (cell.col == j) (crossing_at grid i j ++ block_parts grid cell y) [] in
      either InPieces (nat_lt cell.row i) goes_on (crossing_at grid i j ++ along grid i j)
      (if-there (cell.col == j) (crossing_at grid i j ++ block_parts grid cell y)
      (All-append (λ piece. P piece.part) (crossing_at grid i j) (block_parts grid cell y) (corner-holds i j) (block_parts-hold cell y)))
      (All-append (λ piece. P piece.part) (crossing_at grid i j) (along grid i j) (corner-holds i j) (along-holds i j))

  across-holds : (part : ℕ → List PlacedPart) (last : List PlacedPart) → ((j : ℕ) → InPieces (part j)) → InPieces last → InPieces (across grid part last)
  across-holds part last each end =
      let margin = grid.frame.look.margin in
      let color = grid.frame.look.margin_color in
      let columns = flat_map part (range_with_len 0 (column_count grid.frame)) in
      let right = laid (track_at grid.frame.columns (column_count grid.frame)) (fill margin.right.size margin.right.fill color.right ∷ []) in (
        fills margin.left.size margin.left.fill color.left shown.margins.0 colored.margins.0,
        All-append (λ piece. P piece.part) columns (last ++ right) (All-flat_map (λ piece. P piece.part) part each (range_with_len 0 (column_count grid.frame)))
            (All-append (λ piece. P piece.part) last right end (fills margin.right.size margin.right.fill color.right shown.margins.1 colored.margins.1, tt)),
      )

  pieces-hold : (p : LineKind) (y : ℕ) → InPieces (placed_parts_at grid p y)
  pieces-hold (Boundary i) y = across-holds (boundary_part grid i y) (crossing_at grid i (column_count grid.frame)) (boundary_part-holds i y) (corner-holds i (column_count grid.frame))
  pieces-hold (Row i) y = across-holds (row_part grid i y) (upright grid (column_count grid.frame)) (row_part-holds i y) (upright-holds (column_count grid.frame))
  pieces-hold InMargin y =
      let margin = grid.frame.look.margin in
      let color = grid.frame.look.margin_color in
      either InPieces (nat_lt y grid.frame.rows.margin) (margin_line grid margin.top color.top) (margin_line grid margin.bottom color.bottom)
      (margin-holds margin.top color.top shown.margins.2 colored.margins.2)
      (margin-holds margin.bottom color.bottom shown.margins.3 colored.margins.3)
    where
      margin-holds : (margin : Indent) (color : Option Color) → C margin.fill → Q color → InPieces (margin_line grid margin color)
      margin-holds margin color of_margin of_color = (fills _ margin.fill color of_margin of_color, tt)

  -- it holds of all parts of a line, where it holds of what the settings name and of the lines of the cells
  pub parts-hold : (y : ℕ) → AllByRecursion P (parts_of (picture_line grid y))
  parts-hold y = All-map_of (λ piece. P piece.part) P (λ piece. piece.part) (λ piece here. here) (picture_line grid y) (pieces-hold (line_kind grid.frame.rows y) y)

-- ---- runs

onto-keeps : (P : Part → Type 0) (part : Part) (runs : List (List Part)) → P part → AllByRecursion (AllByRecursion P) runs → AllByRecursion (AllByRecursion P) (onto_color_runs part runs)
onto-keeps P part [] here all = ((here, tt), tt)
onto-keeps P part ([] ∷ runs) here all = ((here, tt), all.1)
onto-keeps P part ((next ∷ run) ∷ runs) here all =
    either (AllByRecursion (AllByRecursion P)) (continues part next) ((part ∷ next ∷ run) ∷ runs) ((part ∷ []) ∷ (next ∷ run) ∷ runs)
    ((here, all.0), all.1) ((here, tt), all)

runs-keep : (P : Part → Type 0) (parts : List Part) → AllByRecursion P parts → AllByRecursion (AllByRecursion P) (color_runs parts)
runs-keep P [] all = tt
runs-keep P (part ∷ parts) all = onto-keeps P part (color_runs parts) all.0 (runs-keep P parts all.1)

shown-keep : (P : Part → Type 0) (parts : List Part) → AllByRecursion P parts → AllByRecursion P (filter is_drawn parts)
shown-keep P [] all = tt
shown-keep P (part ∷ parts) all =
    either (AllByRecursion P) (is_drawn part) (part ∷ filter is_drawn parts) (filter is_drawn parts)
    (all.0, shown-keep P parts all.1) (shown-keep P parts all.1)

-- ---- two readings

module _ {X Y : Type 0} (R : List X → List Y → Type 0) (nothing : R [] [])
    (behind : (a c : List X) (b d : List Y) → R a b → R c d → R (a ++ c) (b ++ d)) where
  related-flat_map : {A : Type 0} (P : A → Type 0) (f : A → List X) (g : A → List Y) → ((x : A) → P x → R (f x) (g x))
      → (xs : List A) → AllByRecursion P xs → R (flat_map f xs) (flat_map g xs)
  related-flat_map P f g each [] all = nothing
  related-flat_map P f g each (x ∷ xs) all = behind (f x) (flat_map f xs) (g x) (flat_map g xs) (each x all.0) (related-flat_map P f g each xs all.1)

  module _ (first : Reading X) (second : Reading Y) (Q : Option Color → Type 0)
      (paint : (color : Option Color) (a : List X) (b : List Y) → Q color → R a b → R (painted first color a) (painted second color b)) where
    abbrev IsRelated : Part → Type 0
    IsRelated part = Q part.color × R (part_items first part) (part_items second part)

    related-run : (run : List Part) → AllByRecursion IsRelated run → R (run_items first run) (run_items second run)
    related-run [] all = nothing
    related-run (part ∷ parts) all =
        paint part.color (flat_map (part_items first) (part ∷ parts)) (flat_map (part_items second) (part ∷ parts)) all.0.0
        (related-flat_map IsRelated (part_items first) (part_items second) (λ part related. related.1) (part ∷ parts) all)

    related-line : (parts : List Part) → AllByRecursion IsRelated parts → R (line_items first parts) (line_items second parts)
    related-line parts all =
        related-flat_map (AllByRecursion IsRelated) (run_items first) (run_items second) related-run (color_runs (filter is_drawn parts))
        (runs-keep IsRelated (filter is_drawn parts) (shown-keep IsRelated parts all))

    module _ (C : ℕ → Type 0) (item : (c : ℕ) → C c → R (first.item c) (second.item c)) (space : C blank) (grid : Grid)
        (line : (cell : Position) (k : ℕ) → R (first.line cell k) (second.line cell k)) (texts_colored : (cell : Position) → Q (grid.text_color cell))
        (shown : ShowsOnly C grid.frame.look) (colored : IsColoredBy Q grid.frame.look) where
      related-fill : (width c : ℕ) → C c → R (flat_map first.item (replicate width c)) (flat_map second.item (replicate width c))
      related-fill width c here = related-flat_map C first.item second.item item (replicate width c) (All-replicate C width c here)

      related-parts : (y : ℕ) → AllByRecursion IsRelated (parts_of (picture_line grid y))
      related-parts y =
          parts-hold IsRelated C Q grid space
          (λ width c color of_c of_color. (of_color, related-fill width c of_c))
          (λ width c color of_c of_color. (of_color, related-fill width c of_c))
          (λ cell k. (texts_colored cell, line cell k)) shown colored y

      pub related-picture_line : (y : ℕ) → R (line_items first (parts_of (picture_line grid y))) (line_items second (parts_of (picture_line grid y)))
      related-picture_line y = related-line (parts_of (picture_line grid y)) (related-parts y)

      module _ (feed : C 0x0a) where
        related-lines : (n from : ℕ) → R
            (flat_map (λ y. (cond (y == 0) [] (first.item 0x0a)) ++ line_items first (parts_of (picture_line grid y))) (range_with_len from n))
            (flat_map (λ y. (cond (y == 0) [] (second.item 0x0a)) ++ line_items second (parts_of (picture_line grid y))) (range_with_len from n))
        related-lines n from =
            related-flat_map (λ _. Unit {0})
            (λ y. (cond (y == 0) [] (first.item 0x0a)) ++ line_items first (parts_of (picture_line grid y)))
            (λ y. (cond (y == 0) [] (second.item 0x0a)) ++ line_items second (parts_of (picture_line grid y)))
            (λ y _. behind (cond (y == 0) [] (first.item 0x0a)) (line_items first (parts_of (picture_line grid y))) (cond (y == 0) [] (second.item 0x0a)) (line_items second (parts_of (picture_line grid y)))
            (feed_before (y == 0)) (related-line (parts_of (picture_line grid y)) (related-parts y)))
            (range_with_len from n) (each (range_with_len from n))
          where
            feed_before : (b : Bool) → R (cond b [] (first.item 0x0a)) (cond b [] (second.item 0x0a))
            feed_before true = nothing
            feed_before false = item 0x0a feed

            each : (ys : List ℕ) → AllByRecursion (λ _. Unit {0}) ys
            each [] = tt
            each (y ∷ ys) = (tt, each ys)

        pub related-items : R (grid_items first grid) (grid_items second grid)
        related-items = related-lines (line_count grid.frame) 0
