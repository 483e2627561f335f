-- What holds of no bytes, of each glyph and fill, of each line of a text, and of bytes side by side and in a colour of
-- theirs, holds of each line of a pool.
use Rattle.std.proofs.Common.{◌==◌, ◌||◌, ◌+◌, ◌-◌, ℕ, Bool, true, false, List, [], ◌∷◌, ◌++◌, Option, None, Some, length, map, replicate, get_or, if◌then◌else◌, nat_lt}
use Rattle.std.specs.Prelude.{IfSome, encode_utf8, flat_map}
use Rattle.std.specs.List.{AllByRecursion, range_with_len}
use Rattle.grid_config.specs.Colors.{Color}
use Rattle.grid_config.specs.Looks.{Look}
use Rattle.grid_config_values.specs.Glyphs.{BoundaryKind, Between, First, Last, along_column, crossing, in_row}
use Rattle.grid_config_values.specs.declared.sides.Indent.{Indent}
use Rattle.papergrid_cells.specs.BlockLines.{part_bytes}
use Rattle.papergrid_cells.specs.Painting.{colored, fill_bytes}
use Rattle.papergrid_picture.specs.Blocks.{Part, fill, free_above, text_line}
use Rattle.papergrid_picture.specs.CellLines.{cell_lines, cell_measures}
use Rattle.papergrid_picture.specs.Picture.{at, blank}
use Rattle.papergrid_picture.specs.Shown.{IsWholeText}
use Rattle.papergrid_picture.proofs.Related.{All-append, All-get_or, All-map, All-map_of, All-replicate}
use Rattle.tabled_pool.specs.Boxes.Boxes.{Box, BoxPart, Shown, Upright, Horizontal, alone, box_of, boxes_of, cell_bytes, cell_height, cell_parts, column_box, column_from, column_height, first_lines, from_line, gap, has_horizontal, has_upright, horizontal_before, of_members, row_box, row_from, row_width, spaces, text_box, upright_before}
use Rattle.tabled_pool.specs.Boxes.Crossings.{Around, Shape, crossing_glyph, glyph, horizontal_glyph, is_flat, is_line, is_up, kind_between, mark_at, mark_before, part_shapes, part_width, shapes_from, upright_glyph}
use Rattle.tabled_pool.specs.Boxes.Framed.{between_sides, bottom_line, framed_height, framed_line, framed_lines, framed_width, left_side, outer_horizontal, right_side, side, top_line}
use Rattle.tabled_pool.specs.Boxes.Runs.{color_runs, goes_on, onto_color_runs, run_bytes}
use Rattle.tabled_pool.specs.Boxes.Shares.{share}
use Rattle.tabled_pool.specs.Boxes.Texts.{around_line, box_line, in_margins, lines, margin_line, printed_line, with_margins}
use Rattle.tabled_pool.specs.Boxes.Values.{Nesting, Text, Beside, Stacked, Nestings, NoMore, Member}
use Rattle.tabled_size.specs.Dimension.Takers.{Takers}
use Rattle.tables_laws.specs.Pools.WholeNestings.{AreWholeNestings, IsWholeNesting}
use Rattle.tables_laws.specs.Shown.ClosingLooks.{ClosesIfSet, IsClosingLook, IsNoControl}

either-holds : {A : Type 0} (Q : A → Type 0) (test : Bool) (x y : A) → Q x → Q y → Q (if test then x else y)
either-holds Q true x y first second = first
either-holds Q false x y first second = second

module _ (P : List ℕ → Type 0) (nothing : P []) (beside : (a b : List ℕ) → P a → P b → P (a ++ b)) (sign : (c : ℕ) → IsNoControl c → P (encode_utf8 c)) (space : IsNoControl blank)
    (paint : (color : Option Color) (bytes : List ℕ) → ClosesIfSet color → P bytes → P (colored color bytes))
    (text_line-holds : (text : List ℕ) → IsWholeText text → (k : ℕ) → P (get_or (cell_lines false false text) k [])) (empty : IsWholeText [])
    (look : Look) (closing : IsClosingLook look) where
  all-holds : {A : Type 0} (bytes : A → List ℕ) (xs : List A) → AllByRecursion (λ x. P (bytes x)) xs → P (flat_map bytes xs)
  all-holds bytes [] all = nothing
  all-holds bytes (x ∷ xs) all = beside (bytes x) (flat_map bytes xs) all.0 (all-holds bytes xs all.1)

  fill-holds : (c width : ℕ) (color : Option Color) → IsNoControl c → ClosesIfSet color → P (colored color (fill_bytes c width))
  fill-holds c width color is closes =
      paint color (fill_bytes c width) closes
      (all-holds encode_utf8 (replicate width c) (All-replicate (λ (c : ℕ). P (encode_utf8 c)) width c (sign c is)))

  -- ---- cells

  module _ (measures : List ℕ) (texts : List (List ℕ)) (each : (k : ℕ) → P (get_or texts k [])) where
    abbrev bytes_of : Part → List ℕ
    bytes_of part = part_bytes (λ k. get_or texts k []) part

    abbrev AreHeld : List Part → Type 0
    AreHeld parts = AllByRecursion (λ part. P (bytes_of part)) parts

    line-held : (width k : ℕ) → AreHeld (text_line (alone look measures) (at 0 0) width k)
    line-held width k =
        let shown = closing.shown.paddings (at 0 0) in
        let colors = closing.colors.paddings (at 0 0) in
        let justified = closing.shown.justification (at 0 0) in
        let color = closing.colors.justification (at 0 0) in
        (fill-holds _ _ _ shown.0 colors.0, (fill-holds _ _ _ justified color, (each k, (fill-holds _ _ _ justified color, (fill-holds _ _ _ shown.1 colors.1, tt)))))

    spaces-held : (width : ℕ) → AreHeld (spaces look width)
    spaces-held width = (fill-holds blank width None space tt, tt)

    either-held : (test : Bool) (xs ys : List Part) → AreHeld xs → AreHeld ys → AreHeld (if test then xs else ys)
    either-held test xs ys first second = either-holds AreHeld test xs ys first second

    parts-held : (width height y : ℕ) → AreHeld (cell_parts look measures width height y)
    parts-held width height y =
        let padding = look.padding (at 0 0) in
        let color = look.padding_color (at 0 0) in
        let shown = closing.shown.paddings (at 0 0) in
        let colors = closing.colors.paddings (at 0 0) in
        let above = free_above (look.alignment_vertical (at 0 0)) (height - cell_height look measures) in
        let inner = y - above in
        let last = if nat_lt (inner - padding.top.size - length measures) padding.bottom.size then fill width padding.bottom.fill color.bottom ∷ [] else spaces look width in
        let text = if nat_lt (inner - padding.top.size) (length measures) then text_line (alone look measures) (at 0 0) width (inner - padding.top.size) else last in
        let first = if nat_lt inner padding.top.size then fill width padding.top.fill color.top ∷ [] else text in
        either-held (nat_lt y above) (spaces look width) first (spaces-held width)
        (either-held (nat_lt inner padding.top.size) (fill width padding.top.fill color.top ∷ []) text (fill-holds padding.top.fill width color.top shown.2 colors.2, tt)
        (either-held (nat_lt (inner - padding.top.size) (length measures)) (text_line (alone look measures) (at 0 0) width (inner - padding.top.size)) last (line-held width (inner - padding.top.size))
        (either-held (nat_lt (inner - padding.top.size - length measures) padding.bottom.size) (fill width padding.bottom.fill color.bottom ∷ []) (spaces look width)
        (fill-holds padding.bottom.fill width color.bottom shown.3 colors.3, tt) (spaces-held width))))

    cell-holds : (width height y : ℕ) → P (cell_bytes look measures texts width height y)
    cell-holds width height y = all-holds bytes_of (cell_parts look measures width height y) (parts-held width height y)

  -- ---- boxes

  abbrev IsShown : BoxPart → Type 0
  IsShown (Shown width bytes) = P bytes
  IsShown (Upright kind) = Unit {0}
  IsShown (Horizontal kind width) = Unit {0}

  abbrev AreShown : List BoxPart → Type 0
  AreShown parts = AllByRecursion IsShown parts

  abbrev HoldsBox : Box → Type 0
  HoldsBox box = (takers : Takers) (width height y : ℕ) → AreShown (box.line takers width height y)

  first-shown : (n : ℕ) (line : ℕ → List BoxPart) (y : ℕ) → AreShown (line y) → AreShown (first_lines n line y)
  first-shown n line y shown = either-holds AreShown (nat_lt y n) (line y) [] shown tt

  from-shown : (top : ℕ) (line : ℕ → List BoxPart) (y : ℕ) → ((z : ℕ) → AreShown (line z)) → AreShown (from_line top line y)
  from-shown top line y shown = either-holds AreShown (nat_lt y top) [] (line (y - top)) tt (shown (y - top))

  text_box-shown : (text : List ℕ) → IsWholeText text → HoldsBox (text_box look text)
  text_box-shown text whole takers width height y =
      let measures = cell_measures false false text in
      let texts = cell_lines false false text in
      let line : ℕ → List BoxPart = λ y. Shown width (cell_bytes look measures texts width height y) ∷ [] in
      either-holds AreShown (width == 0) [] (first_lines height line y) tt
      (first-shown height line y (cell-holds measures texts (text_line-holds text whole) width height y, tt))

  row-shown : (takers : Takers) (n beyond height y i : ℕ) (boxes : List Box) → AllByRecursion HoldsBox boxes → AreShown (row_from look takers n beyond height y i boxes)
  row-shown takers n beyond height y i [] all = tt
  row-shown takers n beyond height y i (box ∷ boxes) all =
      let before = upright_before look i height y in
      let width = box.width + share takers.width beyond n i in
      let rest = row_from look takers n beyond height y (i + 1) boxes in
      All-append IsShown before (box.line takers width height y ++ rest)
      (first-shown height (λ _. replicate (gap (has_upright look) i) (Upright Between)) y (All-replicate IsShown (gap (has_upright look) i) (Upright Between) tt))
      (All-append IsShown (box.line takers width height y) rest (all.0 takers width height y) (row-shown takers n beyond height y (i + 1) boxes all.1))

  column-shown : (takers : Takers) (n beyond width y i top : ℕ) (boxes : List Box) → AllByRecursion HoldsBox boxes → AreShown (column_from look takers n beyond width y i top boxes)
  column-shown takers n beyond width y i top [] all = tt
  column-shown takers n beyond width y i top (box ∷ boxes) all =
      let below = top + gap (has_horizontal look) i in
      let height = box.height + share takers.height beyond n i in
      let before = from_line top (horizontal_before look i width) y in
      let own = from_line below (box.line takers width height) y in
      let rest = column_from look takers n beyond width y (i + 1) (below + height) boxes in
      All-append IsShown before (own ++ rest)
      (from-shown top (horizontal_before look i width) y (λ z. first-shown (gap (has_horizontal look) i) (λ _. Horizontal Between width ∷ []) z (tt, tt)))
      (All-append IsShown own rest (from-shown below (box.line takers width height) y (λ z. all.0 takers width height z)) (column-shown takers n beyond width y (i + 1) (below + height) boxes all.1))

  members-shown : (box : List Box → Box) → ((boxes : List Box) → AllByRecursion HoldsBox boxes → HoldsBox (box boxes)) → (boxes : List Box) → AllByRecursion HoldsBox boxes → HoldsBox (of_members look box boxes)
  members-shown box each [] all = text_box-shown [] empty
  members-shown box each (first ∷ boxes) all = each (first ∷ boxes) all

  mutual
    nesting-shown : (nesting : Nesting) → IsWholeNesting nesting → HoldsBox (box_of look nesting)
    nesting-shown (Text text) whole = text_box-shown text whole
    nesting-shown (Beside nestings) whole =
        members-shown (row_box look) (λ boxes all takers width height y. row-shown takers (length boxes) (width - row_width look boxes) height y 0 boxes all)
        (boxes_of look nestings) (nestings-shown nestings whole)
    nesting-shown (Stacked nestings) whole =
        members-shown (column_box look) (λ boxes all takers width height y. column-shown takers (length boxes) (height - column_height look boxes) width y 0 0 boxes all)
        (boxes_of look nestings) (nestings-shown nestings whole)

    nestings-shown : (nestings : Nestings) → AreWholeNestings nestings → AllByRecursion HoldsBox (boxes_of look nestings)
    nestings-shown NoMore whole = tt
    nestings-shown (Member nesting nestings) whole = (nesting-shown nesting whole.0, nestings-shown nestings whole.1)

  -- ---- in a frame

  module _ (takers : Takers) (box : Box) (held : HoldsBox box) where
    side-shown : (columns : ℕ) (kind : BoundaryKind) (y : ℕ) → AreShown (side box columns kind y)
    side-shown columns kind y = first-shown box.height (λ _. replicate columns (Upright kind)) y (All-replicate IsShown columns (Upright kind) tt)

    outer-shown : (width lines : ℕ) (kind : BoundaryKind) (y : ℕ) → AreShown (outer_horizontal width lines kind y)
    outer-shown width lines kind y = first-shown lines (λ _. Horizontal kind width ∷ []) y (tt, tt)

    between-shown : (y : ℕ) → AreShown (between_sides look takers box y)
    between-shown y =
        let left = side box (left_side look) First y in
        let right = side box (right_side look) Last y in
        let line = box.line takers box.width box.height y in
        All-append IsShown left (line ++ right) (side-shown (left_side look) First y)
        (All-append IsShown line right (held takers box.width box.height y) (side-shown (right_side look) Last y))

    framed-shown : (y : ℕ) → AreShown (framed_line look takers box y)
    framed-shown y =
        let width = framed_width look box in
        let top = outer_horizontal width (top_line look) First y in
        let inside = from_line (top_line look) (between_sides look takers box) y in
        let bottom = from_line (top_line look + box.height) (outer_horizontal width (bottom_line look) Last) y in
        All-append IsShown top (inside ++ bottom) (outer-shown width (top_line look) First y)
        (All-append IsShown inside bottom (from-shown (top_line look) (between_sides look takers box) y between-shown)
        (from-shown (top_line look + box.height) (outer_horizontal width (bottom_line look) Last) y (λ z. outer-shown width (bottom_line look) Last z)))

  -- ---- glyphs

  abbrev IsSound : Shape → Type 0
  IsSound shape = P shape.bytes × ClosesIfSet shape.color

  glyph-sound : (character : Option ℕ) (color : Option Color) (joins : Bool) → IfSome character IsNoControl → ClosesIfSet color → IsSound (glyph character color joins)
  glyph-sound None color joins is closes = (sign blank space, closes)
  glyph-sound (Some c) color joins is closes = (sign c is, closes)

  crossing-sound : (up down left right : Bool) → IsSound (crossing_glyph look up down left right)
  crossing-sound up down left right =
      let row = kind_between up down in
      let column = kind_between left right in
      glyph-sound (crossing look.borders row column) (crossing look.borders_color row column) true (closing.shown.crossings row column) (closing.colors.crossings row column)

  module _ (around : Around) where
    upright-sound : (kind : BoundaryKind) (x : ℕ) → IsSound (upright_glyph look around kind x)
    upright-sound kind x =
        let left = is_flat (mark_before around.here x) in
        let right = is_flat (mark_at around.here (x + 1)) in
        let up = is_line (mark_at around.above x) in
        let down = is_line (mark_at around.below x) in
        either-holds IsSound (left || right) (crossing_glyph look up down left right) (glyph (in_row look.borders kind) (in_row look.borders_color kind) false)
        (crossing-sound up down left right) (glyph-sound (in_row look.borders kind) (in_row look.borders_color kind) false (closing.shown.in_rows kind) (closing.colors.in_rows kind))

    horizontal-sound : (kind : BoundaryKind) (x : ℕ) → IsSound (horizontal_glyph look around kind x)
    horizontal-sound kind x =
        let up = is_up (mark_at around.above x) in
        let down = is_up (mark_at around.below x) in
        let left = is_line (mark_before around.here x) in
        let right = is_line (mark_at around.here (x + 1)) in
        either-holds IsSound (up || down) (crossing_glyph look up down left right) (glyph (along_column look.borders kind) (along_column look.borders_color kind) true)
        (crossing-sound up down left right) (glyph-sound (along_column look.borders kind) (along_column look.borders_color kind) true (closing.shown.along_columns kind) (closing.colors.along_columns kind))

    part-sound : (x : ℕ) (part : BoxPart) → IsShown part → AllByRecursion IsSound (part_shapes look around x part)
    part-sound x (Shown width bytes) shown = ((shown, tt), tt)
    part-sound x (Upright kind) shown = (upright-sound kind x, tt)
    part-sound x (Horizontal kind width) shown = All-map IsSound (horizontal_glyph look around kind) (λ at. horizontal-sound kind at) (range_with_len x width)

    shapes-sound : (x : ℕ) (parts : List BoxPart) → AreShown parts → AllByRecursion IsSound (shapes_from look around x parts)
    shapes-sound x [] shown = tt
    shapes-sound x (part ∷ parts) shown =
        All-append IsSound (part_shapes look around x part) (shapes_from look around (x + part_width part) parts) (part-sound x part shown.0) (shapes-sound (x + part_width part) parts shown.1)

  -- ---- runs

  abbrev AreSound : List Shape → Type 0
  AreSound shapes = AllByRecursion IsSound shapes

  onto-sound : (shape : Shape) (runs : List (List Shape)) → IsSound shape → AllByRecursion AreSound runs → AllByRecursion AreSound (onto_color_runs shape runs)
  onto-sound shape [] here all = ((here, tt), tt)
  onto-sound shape ([] ∷ runs) here all = ((here, tt), all.1)
  onto-sound shape ((next ∷ run) ∷ runs) here all =
      either-holds (AllByRecursion AreSound) (goes_on shape next) ((shape ∷ next ∷ run) ∷ runs) ((shape ∷ []) ∷ (next ∷ run) ∷ runs)
      ((here, all.0), all.1) ((here, tt), all)

  runs-sound : (shapes : List Shape) → AreSound shapes → AllByRecursion AreSound (color_runs shapes)
  runs-sound [] all = tt
  runs-sound (shape ∷ shapes) all = onto-sound shape (color_runs shapes) all.0 (runs-sound shapes all.1)

  only-bytes : (shapes : List Shape) → AreSound shapes → AllByRecursion (λ (shape : Shape). P shape.bytes) shapes
  only-bytes [] all = tt
  only-bytes (shape ∷ shapes) all = (all.0.0, only-bytes shapes all.1)

  run-holds : (run : List Shape) → AreSound run → P (run_bytes run)
  run-holds [] all = nothing
  run-holds (shape ∷ shapes) all =
      paint shape.color (flat_map (λ (s : Shape). s.bytes) (shape ∷ shapes)) all.0.1 (all-holds (λ (s : Shape). s.bytes) (shape ∷ shapes) (only-bytes (shape ∷ shapes) all))

  each-run : (runs : List (List Shape)) → AllByRecursion AreSound runs → AllByRecursion (λ run. P (run_bytes run)) runs
  each-run [] all = tt
  each-run (run ∷ runs) all = (run-holds run all.0, each-run runs all.1)

  -- ---- lines

  abbrev AreHeldLines : List (List ℕ) → Type 0
  AreHeldLines lines = AllByRecursion P lines

  printed-holds : (lines : List (List BoxPart)) → AllByRecursion AreShown lines → (y : ℕ) → P (printed_line look lines y)
  printed-holds lines all y =
      let shapes = shapes_from look (around_line lines y) 0 (box_line lines y) in
      let sound = shapes-sound (around_line lines y) 0 (box_line lines y) (All-get_or AreShown lines y [] all tt) in
      all-holds run_bytes (color_runs shapes) (each-run (color_runs shapes) (runs-sound shapes sound))

  margins-hold : (line : List ℕ) → P line → P (in_margins look line)
  margins-hold line holds =
      let shown = closing.shown.margins in
      let colors = closing.colors.margins in
      let left = colored look.margin_color.left (fill_bytes look.margin.left.fill look.margin.left.size) in
      let right = colored look.margin_color.right (fill_bytes look.margin.right.fill look.margin.right.size) in
      beside left (line ++ right) (fill-holds look.margin.left.fill look.margin.left.size look.margin_color.left shown.0 colors.0)
      (beside line right holds (fill-holds look.margin.right.fill look.margin.right.size look.margin_color.right shown.1 colors.1))

  margin-holds : (width : ℕ) (margin : Indent) (color : Option Color) → IsNoControl margin.fill → ClosesIfSet color → P (margin_line look width margin color)
  margin-holds width margin color is closes = margins-hold (colored color (fill_bytes margin.fill width)) (fill-holds margin.fill width color is closes)

  pub all_lines-hold : (takers : Takers) (nesting : Nesting) → IsWholeNesting nesting → (width : ℕ) → AllByRecursion P (with_margins look width (lines look takers (box_of look nesting)))
  all_lines-hold takers nesting whole width =
      let box = box_of look nesting in
      let framed = framed_lines look takers box in
      let held = All-map AreShown (framed_line look takers box) (framed-shown takers box (nesting-shown nesting whole)) (range_with_len 0 (framed_height look box)) in
      let own = lines look takers box in
      let above = margin_line look width look.margin.top look.margin_color.top in
      let below = margin_line look width look.margin.bottom look.margin_color.bottom in
      let shown = closing.shown.margins in
      let colors = closing.colors.margins in
      All-append P (replicate look.margin.top.size above) (map (in_margins look) own ++ replicate look.margin.bottom.size below)
      (All-replicate P look.margin.top.size above (margin-holds width look.margin.top look.margin_color.top shown.2 colors.2))
      (All-append P (map (in_margins look) own) (replicate look.margin.bottom.size below)
      (All-map_of P P (in_margins look) margins-hold own (All-map P (printed_line look framed) (printed-holds framed held) (range_with_len 0 (length framed))))
      (All-replicate P look.margin.bottom.size below (margin-holds width look.margin.bottom look.margin_color.bottom shown.3 colors.3)))
