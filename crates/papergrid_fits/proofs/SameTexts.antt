-- Rows whose texts are the same at each place of the table have one picture, and fit the sizes alike.
use Rattle.std.proofs.Common.{◌≡◌, ℕ, zero, suc, ◌+◌, ◌-◌, ◌<◌, ◌≤◌, Bool, true, false, cond, List, [], ◌∷◌, ◌++◌, length, Option, None, Some, Result, Ok, Err, map, flat_map, replicate, get_or, refl, ap, sym, subst, ◌∙◌, arith}
use Rattle.std.specs.Prelude.{⊤, ◌==◌, ◌&&◌, encode_utf8, nat_lt, slice_index, unwrap_or}
use borrow.Author.Tests.{ltb-true}
use Rattle.std.specs.List.{All, filter, find, range_with_len}
use Rattle.std.proofs.lemmas.List.Concat.{flat_map-cons}
use Rattle.std.proofs.lemmas.List.Elements.{All-append, All-cons, All-filter, All-from_recursion, All-head, All-map, All-nil, All-replicate, All-tail}
use Rattle.std.proofs.lemmas.List.FromFn.{get_or-range_with_len, length-range_with_len}
use Rattle.grid_config_values.specs.Entities.{table_positions}
use Rattle.grid_config_values.specs.declared.fault.Fault.{Fault}
use Rattle.grid_config_values.specs.declared.fault.Fault.TheVariants.{Memory, Range, Room, Spans}
use Rattle.grid_config_values.specs.declared.position.Position.{Position}
use Rattle.grid_config_values.specs.Glyphs.{along_column, boundary_kind, crossing, in_row}
use Rattle.grid_config_values.specs.Order.{same_place}
use Rattle.grid_config_values.specs.Spans.Owners.{owner}
use Rattle.grid_config_values.specs.Spans.Spans.{IsInTable}
use Rattle.grid_config_values.proofs.SpansLemmas.Owners.{owner_in_table}
use Rattle.grid_config.specs.Colors.{Color}
use Rattle.grid_config.specs.Looks.{Look, look_of}
use Rattle.grid_config.specs.Settings.{Settings}
use Rattle.grid_records_traits.specs.Rows.{text_at}
use Rattle.grid_records_traits.specs.TextLines.{text_width}
use Rattle.papergrid_picture.specs.Blocks.{Content, Fill, Glyph, TextLine, Grid, Part, block, fill, free_above, text_line}
use Rattle.papergrid_picture.specs.CellLines.{cell_lines, cell_measures}
use Rattle.papergrid_picture.specs.Fitting.{FitsAnswer, first_too_wide, is_too_wide}
use Rattle.papergrid_picture.specs.Frame.{Boundary, Frame, InMargin, LineKind, Row, block_height, block_width, boundary_at, frame_of, full_line_width, kind_from, line_count, line_kind, thickness, track_at}
use Rattle.papergrid_picture.specs.Picture.{PlacedPart, across, along, at, blank, block_parts, boundary_part, crossing_at, edge, laid, margin_line, parts_of, picture_line, placed_parts_at, row_part, seen, upright}
use Rattle.papergrid_picture.specs.Reading.{Reading, is_drawn, continues, content_items, grid_line, line_items, onto_color_runs, painted, part_items, run_items, color_runs}
use Rattle.papergrid_picture.specs.Tables.{in_bytes, table_grid, table_text}

-- ---- lists

flat_map-same : {X A : Type 0} (f g : X → List A) (xs : List X) → All (λ x. f x ≡ g x) xs → flat_map f xs ≡ flat_map g xs
flat_map-same f g [] same = refl
flat_map-same f g (x ∷ xs) same =
    flat_map-cons f x xs
    ∙ (ap (λ ys. ys ++ flat_map f xs) (All-head (λ x. f x ≡ g x) x xs same)
    ∙ (ap (λ ys. g x ++ ys) (flat_map-same f g xs (All-tail (λ x. f x ≡ g x) x xs same))
    ∙ sym (flat_map-cons g x xs)))

find-same : {X : Type 0} (f g : X → Bool) (xs : List X) → All (λ x. f x ≡ g x) xs → find f xs ≡ find g xs
find-same f g [] same = refl
find-same f g (x ∷ xs) same =
    ap (λ b. cond b (Some x) (find f xs)) (All-head (λ x. f x ≡ g x) x xs same)
    ∙ ap (cond (g x) (Some x)) (find-same f g xs (All-tail (λ x. f x ≡ g x) x xs same))

-- what holds of each number below n
all_below : (P : ℕ → Type 0) (n : ℕ) → ((j : ℕ) → j < n → P j) → All P (range_with_len 0 n)
all_below P n holds = λ k d inside.
    let below : k < n = omega (arith, inside, length-range_with_len 0 n) in
    let here : get_or (range_with_len 0 n) k d ≡ k = (let e : 0 + k ≡ k = omega arith in get_or-range_with_len 0 n k d below ∙ e) in
    subst P (sym here) (holds k below)

All-flat_map : {X A : Type 0} (P : A → Type 0) (f : X → List A) (xs : List X) → All (λ x. All P (f x)) xs → All P (flat_map f xs)
All-flat_map P f [] all = All-nil P
All-flat_map P f (x ∷ xs) all =
    subst (All P) (sym (flat_map-cons f x xs))
    (All-append P (f x) (flat_map f xs) (All-head (λ x. All P (f x)) x xs all) (All-flat_map P f xs (All-tail (λ x. All P (f x)) x xs all)))

-- each of some lists, and the empty one after the last
All-listed : {A : Type 0} (P : A → Type 0) (xss : List (List A)) (k : ℕ) → All (All P) xss → All P (get_or xss k [])
All-listed P [] k all = All-nil P
All-listed P (xs ∷ xss) zero all = All-head (All P) xs xss all
All-listed P (xs ∷ xss) (suc k) all = All-listed P xss k (All-tail (All P) xs xss all)

all_positions : (P : Position → Type 0) (rows columns : ℕ) → ((p : Position) → IsInTable rows columns p → P p) → All P (table_positions rows columns)
all_positions P rows columns holds =
    All-flat_map P (λ i. map (at i) (range_with_len 0 columns)) (range_with_len 0 rows)
    (all_below (λ i. All P (map (at i) (range_with_len 0 columns))) rows (λ i row.
    All-map P (at i) (range_with_len 0 columns) (all_below (λ j. P (at i j)) columns (λ j column. holds (at i j) (row, column)))))

-- ---- items of parts whose lines are the same in two readings

module _ {X : Type 0} (reading : Reading X) (line : Position → ℕ → List X) where
  abbrev others : Reading X
  others = record reading { line = line }

  abbrev SameLine : Content → Type 0
  SameLine (Fill c) = ⊤
  SameLine (Glyph c) = ⊤
  SameLine (TextLine cell k) = reading.line cell k ≡ line cell k

  abbrev SamePart : Part → Type 0
  SamePart part = SameLine part.content

  items-same : (content : Content) (width : ℕ) → SameLine content → content_items reading content width ≡ content_items others content width
  items-same (Fill c) width same = refl
  items-same (Glyph c) width same = refl
  items-same (TextLine cell k) width same = same

  painted-same : (color : Option Color) (items : List X) → painted reading color items ≡ painted others color items
  painted-same None items = refl
  painted-same (Some color) [] = refl
  painted-same (Some color) (item ∷ items) = refl

  run-same : (run : List Part) → All SamePart run → run_items reading run ≡ run_items others run
  run-same [] same = refl
  run-same (part ∷ parts) same =
      ap (painted reading part.color) (flat_map-same (part_items reading) (part_items others) (part ∷ parts) (λ k d inside. items-same (get_or (part ∷ parts) k d).content (get_or (part ∷ parts) k d).width (same k d inside)))
      ∙ painted-same part.color (flat_map (part_items others) (part ∷ parts))

  onto-same : (part : Part) (runs : List (List Part)) → SamePart part → All (All SamePart) runs → All (All SamePart) (onto_color_runs part runs)
  onto-same part [] here same = All-cons (All SamePart) (part ∷ []) [] (All-cons SamePart part [] here (All-nil SamePart)) same
  onto-same part ([] ∷ runs) here same = All-cons (All SamePart) (part ∷ []) runs (All-cons SamePart part [] here (All-nil SamePart)) (All-tail (All SamePart) [] runs same)
  onto-same part ((next ∷ run) ∷ runs) here same = by (continues part next)
    where
      first : All SamePart (next ∷ run)
      first = All-head (All SamePart) (next ∷ run) runs same

      by : (b : Bool) → All (All SamePart) (cond b ((part ∷ next ∷ run) ∷ runs) ((part ∷ []) ∷ (next ∷ run) ∷ runs))
      by true = All-cons (All SamePart) (part ∷ next ∷ run) runs (All-cons SamePart part (next ∷ run) here first) (All-tail (All SamePart) (next ∷ run) runs same)
      by false = All-cons (All SamePart) (part ∷ []) ((next ∷ run) ∷ runs) (All-cons SamePart part [] here (All-nil SamePart)) same

  runs-same : (parts : List Part) → All SamePart parts → All (All SamePart) (color_runs parts)
  runs-same [] same = All-nil (All SamePart)
  runs-same (part ∷ parts) same = onto-same part (color_runs parts) (All-head SamePart part parts same) (runs-same parts (All-tail SamePart part parts same))

  line_items-same : (parts : List Part) → All SamePart parts → line_items reading parts ≡ line_items others parts
  line_items-same parts same =
      let runs = color_runs (filter is_drawn parts) in
      let all : All (All SamePart) runs = runs-same (filter is_drawn parts) (All-filter is_drawn SamePart parts same) in
      flat_map-same (run_items reading) (run_items others) runs (λ k d inside. run-same (get_or runs k d) (all k d inside))

-- ---- whether they fit

pub answer-same : (frame : Frame) (a b : List (List (List ℕ))) (Good : Type 0) → first_too_wide frame a ≡ first_too_wide frame b →
    (answer : Result (Unit {0}) Fault) → FitsAnswer frame a Good answer → FitsAnswer frame b Good answer
answer-same frame a b Good same (Ok done) is = (is.0, is.1, sym same ∙ is.2)
answer-same frame a b Good same (Err Spans) is = is
answer-same frame a b Good same (Err Range) is = is
answer-same frame a b Good same (Err (Room row column)) is = (is.0, is.1, sym same ∙ is.2)
answer-same frame a b Good same (Err Memory) is = is

-- ---- which rows and boundaries lines show

abbrev IsIn : ℕ → LineKind → Type 0
IsIn rows (Boundary i) = i ≤ rows
IsIn rows (Row i) = i < rows
IsIn rows InMargin = ⊤

kind_from-in : (has : ℕ → Bool) (i : ℕ) (heights : List ℕ) (y : ℕ) → IsIn (i + length heights) (kind_from has i heights y)
kind_from-in has i [] y = by (nat_lt y (thickness (has i)))
  where
    by : (b : Bool) → IsIn (i + 0) (cond b (Boundary i) InMargin)
    by true = omega arith
    by false = tt
kind_from-in has i (height ∷ heights) y =
    let k = y - thickness (has i) in
    let e : (i + 1) + length heights ≡ i + suc (length heights) = omega arith in
    by (nat_lt y (thickness (has i))) (nat_lt k height) (kind_from has (i + 1) heights (k - height))
    (subst (λ n. IsIn n (kind_from has (i + 1) heights (k - height))) e (kind_from-in has (i + 1) heights (k - height)))
  where
    by : (b c : Bool) (behind : LineKind) → IsIn (i + suc (length heights)) behind → IsIn (i + suc (length heights)) (cond b (Boundary i) (cond c (Row i) behind))
    by true c behind in_it = omega arith
    by false true behind in_it = omega arith
    by false false behind in_it = in_it

-- ---- two tables of the same texts

module _ (settings : Settings) (widths heights : List ℕ) (a b : List (List (List ℕ)))
    (same : (p : Position) → IsInTable (length heights) (length widths) p → text_at a p ≡ text_at b p) where
  abbrev look : Look
  look = look_of settings

  abbrev frame : Frame
  frame = frame_of look widths heights

  pub first_too_wide-same : first_too_wide frame a ≡ first_too_wide frame b
  first_too_wide-same =
      find-same (is_too_wide frame a) (is_too_wide frame b) (table_positions (length heights) (length widths))
      (all_positions (λ p. is_too_wide frame a p ≡ is_too_wide frame b p) (length heights) (length widths) (λ p inside.
      let padding = look.padding p in
      ap (λ text. same_place (owner look.extent p) p && nat_lt (block_width frame p) (text_width text + padding.left.size + padding.right.size)) (same p inside)))

  -- ---- their pictures

  module _ (colors : Position → Option Color) where
    abbrev first_grid : Grid
    first_grid = table_grid look a colors widths heights

    abbrev second_grid : Grid
    second_grid = table_grid look b colors widths heights

    -- each cell has this text
    abbrev with_text : List ℕ → Grid
    with_text text = record {
      frame = frame;
      measures = λ cell. cell_measures (look.trim_horizontal cell) (look.trim_vertical cell) text;
      text_color = colors;
    }

    abbrev Same : Part → Type 0
    Same = SamePart (in_bytes look a) (in_bytes look b).line

    abbrev SamePiece : PlacedPart → Type 0
    SamePiece piece = Same piece.part

    laid-same : (left : ℕ) (parts : List Part) → All Same parts → All SamePiece (laid left parts)
    laid-same left [] all = All-nil SamePiece
    laid-same left (part ∷ parts) all =
        All-cons SamePiece (record { left = left; part = part }) (laid (left + part.width) parts) (All-head Same part parts all)
        (laid-same (left + part.width) parts (All-tail Same part parts all))

    -- a part that is no line of a cell
    one : (left : ℕ) (part : Part) → Same part → All SamePiece (laid left (part ∷ []))
    one left part here = laid-same left (part ∷ []) (All-cons Same part [] here (All-nil Same))

    module _ (cell : Position) (inside : IsInTable (length heights) (length widths) cell) where
      block_parts-same : (y : ℕ) → block_parts first_grid cell y ≡ block_parts second_grid cell y
      block_parts-same y = ap (λ text. block_parts (with_text text) cell y) (same cell inside)

      line-same : (width k : ℕ) → All Same (text_line first_grid cell width k)
      line-same width k =
          All-from_recursion Same (text_line first_grid cell width k)
          (tt, (tt, (ap (λ text. get_or (cell_lines (look.trim_horizontal cell) (look.trim_vertical cell) text) k []) (same cell inside), (tt, (tt, tt)))))

      block-same : (width height : ℕ) → All (All Same) (block first_grid cell width height)
      block-same width height =
          let count = length (first_grid.measures cell) in
          let padding = look.padding cell in
          let padding_color = look.padding_color cell in
          let blank = text_line first_grid cell width count in
          let free = height - padding.top.size - count - padding.bottom.size in
          let above = free_above (look.alignment_vertical cell) free in
          let filled : (fill : Part) → Same fill → All Same (fill ∷ []) = λ (fill : Part). λ (here : Same fill). All-cons Same fill [] here (All-nil Same) in
          let top = fill width padding.top.fill padding_color.top in
          let bottom = fill width padding.bottom.fill padding_color.bottom in
          let lines = map (text_line first_grid cell width) (range_with_len 0 count) in
          let behind = replicate (free - above) blank ++ replicate padding.bottom.size (bottom ∷ []) in
          All-append (All Same) (replicate padding.top.size (top ∷ [])) (replicate above blank ++ (lines ++ behind))
          (All-replicate (All Same) padding.top.size (top ∷ []) (filled top tt))
          (All-append (All Same) (replicate above blank) (lines ++ behind)
          (All-replicate (All Same) above blank (line-same width count))
          (All-append (All Same) lines behind
          (All-map (All Same) (text_line first_grid cell width) (range_with_len 0 count) (λ k d below. line-same width (get_or (range_with_len 0 count) k d)))
          (All-append (All Same) (replicate (free - above) blank) (replicate padding.bottom.size (bottom ∷ []))
          (All-replicate (All Same) (free - above) blank (line-same width count))
          (All-replicate (All Same) padding.bottom.size (bottom ∷ []) (filled bottom tt)))))

      pieces-same : (y : ℕ) → All SamePiece (block_parts first_grid cell y)
      pieces-same y =
          let lines = block first_grid cell (block_width frame cell) (block_height frame cell) in
          let k = y - track_at frame.rows cell.row in
          laid-same (track_at frame.columns cell.col) (get_or lines k []) (All-listed Same lines k (block-same (block_width frame cell) (block_height frame cell)))

    edge-same : (content : ℕ → Content) (glyph : Option ℕ) (color : Option Color) (j : ℕ) → ((c : ℕ) → SameLine (in_bytes look a) (in_bytes look b).line (content c))
        → All SamePiece (edge first_grid content glyph color j)
    edge-same content glyph color j here = by (frame.columns.has_boundary j)
      where
        by : (there : Bool) → All SamePiece (cond there (laid (boundary_at frame.columns j) (record { width = 1; content = content (unwrap_or glyph blank); color = color } ∷ [])) [])
        by true = one (boundary_at frame.columns j) (record { width = 1; content = content (unwrap_or glyph blank); color = color }) (here (unwrap_or glyph blank))
        by false = All-nil SamePiece

    upright-same : (j : ℕ) → All SamePiece (upright first_grid j)
    upright-same j = edge-same Fill (in_row look.borders (boundary_kind j (length widths))) (in_row look.borders_color (boundary_kind j (length widths))) j (λ c. tt)

    corner-same : (i j : ℕ) → All SamePiece (crossing_at first_grid i j)
    corner-same i j =
        let row = boundary_kind i (length heights) in
        let column = boundary_kind j (length widths) in
        edge-same Glyph (crossing look.borders row column) (crossing look.borders_color row column) j (λ c. tt)

    along-same : (i j : ℕ) → All SamePiece (along first_grid i j)
    along-same i j =
        let kind = boundary_kind i (length heights) in
        one (track_at frame.columns j)
        (record { width = slice_index widths j; content = Glyph (unwrap_or (along_column look.borders kind) blank); color = along_column look.borders_color kind }) tt

    -- the cell that is seen at a place of the table is in it
    seen-in : (rows i j : ℕ) → i < rows → j < length widths → IsInTable rows (length widths) (seen first_grid i j)
    seen-in rows i j row column = owner_in_table settings.spans rows (length widths) (at i j) (row, column)

    row_part-equal : (i y j : ℕ) → i < length heights → j < length widths → row_part first_grid i y j ≡ row_part second_grid i y j
    row_part-equal i y j row column =
        let cell = seen first_grid i j in
        ap (λ pieces. cond (cell.col == j) (upright first_grid j ++ pieces) []) (block_parts-same cell (seen-in (length heights) i j row column) y)

    row_part-same : (i y j : ℕ) → i < length heights → j < length widths → All SamePiece (row_part first_grid i y j)
    row_part-same i y j row column = by (cell.col == j)
      where
        cell : Position
        cell = seen first_grid i j

        by : (b : Bool) → All SamePiece (cond b (upright first_grid j ++ block_parts first_grid cell y) [])
        by true = All-append SamePiece (upright first_grid j) (block_parts first_grid cell y) (upright-same j) (pieces-same cell (seen-in (length heights) i j row column) y)
        by false = All-nil SamePiece

    -- a cell that goes on in row boundary i began in a row above it
    boundary_part-equal : (i y j : ℕ) → i ≤ length heights → j < length widths → boundary_part first_grid i y j ≡ boundary_part second_grid i y j
    boundary_part-equal i y j row column = by (nat_lt cell.row i) refl
      where
        cell : Position
        cell = seen first_grid i j

        other : List PlacedPart
        other = crossing_at first_grid i j ++ along first_grid i j

        shown : Grid → List PlacedPart
        shown grid = cond (cell.col == j) (crossing_at first_grid i j ++ block_parts grid cell y) []

        by : (b : Bool) → nat_lt cell.row i ≡ b → cond b (shown first_grid) other ≡ cond b (shown second_grid) other
        by true above =
            let inside : IsInTable (length heights) (length widths) cell = (omega (arith, ltb-true cell.row i above, row), (seen-in (i + 1) i j (omega arith) column).1) in
            ap (λ pieces. cond (cell.col == j) (crossing_at first_grid i j ++ pieces) []) (block_parts-same cell inside y)
        by false from = refl

    boundary_part-same : (i y j : ℕ) → i ≤ length heights → j < length widths → All SamePiece (boundary_part first_grid i y j)
    boundary_part-same i y j row column = by (nat_lt cell.row i) refl (cell.col == j)
      where
        cell : Position
        cell = seen first_grid i j

        by : (b : Bool) → nat_lt cell.row i ≡ b → (c : Bool) → All SamePiece (cond b (cond c (crossing_at first_grid i j ++ block_parts first_grid cell y) []) (crossing_at first_grid i j ++ along first_grid i j))
        by true above true =
            let inside : IsInTable (length heights) (length widths) cell = (omega (arith, ltb-true cell.row i above, row), (seen-in (i + 1) i j (omega arith) column).1) in
            All-append SamePiece (crossing_at first_grid i j) (block_parts first_grid cell y) (corner-same i j) (pieces-same cell inside y)
        by true above false = All-nil SamePiece
        by false from c = All-append SamePiece (crossing_at first_grid i j) (along first_grid i j) (corner-same i j) (along-same i j)

    across-equal : (first second : ℕ → List PlacedPart) (last : List PlacedPart) → ((j : ℕ) → j < length widths → first j ≡ second j) → across first_grid first last ≡ across first_grid second last
    across-equal first second last equal =
        let margin = look.margin in
        let color = look.margin_color in
        ap (λ body. laid 0 (fill margin.left.size margin.left.fill color.left ∷ [])
        ++ (body ++ (last ++ laid (track_at frame.columns (length widths)) (fill margin.right.size margin.right.fill color.right ∷ []))))
        (flat_map-same first second (range_with_len 0 (length widths)) (all_below (λ j. first j ≡ second j) (length widths) equal))

    across-same : (part : ℕ → List PlacedPart) (last : List PlacedPart) → ((j : ℕ) → j < length widths → All SamePiece (part j)) → All SamePiece last → All SamePiece (across first_grid part last)
    across-same part last parts at_last =
        let margin = look.margin in
        let color = look.margin_color in
        let left = laid 0 (fill margin.left.size margin.left.fill color.left ∷ []) in
        let body = flat_map part (range_with_len 0 (length widths)) in
        let right = laid (track_at frame.columns (length widths)) (fill margin.right.size margin.right.fill color.right ∷ []) in
        All-append SamePiece left (body ++ (last ++ right)) (one 0 (fill margin.left.size margin.left.fill color.left) tt)
        (All-append SamePiece body (last ++ right)
        (All-flat_map SamePiece part (range_with_len 0 (length widths)) (all_below (λ j. All SamePiece (part j)) (length widths) parts))
        (All-append SamePiece last right at_last (one (track_at frame.columns (length widths)) (fill margin.right.size margin.right.fill color.right) tt)))

    placed_parts_at-equal : (shown : LineKind) (y : ℕ) → IsIn (length heights) shown → placed_parts_at first_grid shown y ≡ placed_parts_at second_grid shown y
    placed_parts_at-equal (Boundary i) y row =
        across-equal (boundary_part first_grid i y) (boundary_part second_grid i y) (crossing_at first_grid i (length widths)) (λ j column. boundary_part-equal i y j row column)
    placed_parts_at-equal (Row i) y row =
        across-equal (row_part first_grid i y) (row_part second_grid i y) (upright first_grid (length widths)) (λ j column. row_part-equal i y j row column)
    placed_parts_at-equal InMargin y row = refl

    placed_parts_at-same : (shown : LineKind) (y : ℕ) → IsIn (length heights) shown → All SamePiece (placed_parts_at first_grid shown y)
    placed_parts_at-same (Boundary i) y row =
        across-same (boundary_part first_grid i y) (crossing_at first_grid i (length widths)) (λ j column. boundary_part-same i y j row column) (corner-same i (length widths))
    placed_parts_at-same (Row i) y row =
        across-same (row_part first_grid i y) (upright first_grid (length widths)) (λ j column. row_part-same i y j row column) (upright-same (length widths))
    placed_parts_at-same InMargin y row = by (nat_lt y frame.rows.margin)
      where
        by : (b : Bool) → All SamePiece (cond b (margin_line first_grid look.margin.top look.margin_color.top) (margin_line first_grid look.margin.bottom look.margin_color.bottom))
        by true = one 0 (fill (full_line_width frame) look.margin.top.fill look.margin_color.top) tt
        by false = one 0 (fill (full_line_width frame) look.margin.bottom.fill look.margin_color.bottom) tt

    kind-in : (y : ℕ) → IsIn (length heights) (line_kind frame.rows y)
    kind-in y = by (nat_lt y frame.rows.margin)
      where
        by : (b : Bool) → IsIn (length heights) (cond b InMargin (kind_from frame.rows.has_boundary 0 heights (y - frame.rows.margin)))
        by true = tt
        by false =
            let e : 0 + length heights ≡ length heights = omega arith in
            subst (λ n. IsIn n (kind_from frame.rows.has_boundary 0 heights (y - frame.rows.margin))) e (kind_from-in frame.rows.has_boundary 0 heights (y - frame.rows.margin))

    grid_line-same : (y : ℕ) → grid_line (in_bytes look a) first_grid y ≡ grid_line (in_bytes look b) second_grid y
    grid_line-same y =
        let pieces = picture_line first_grid y in
        line_items-same (in_bytes look a) (in_bytes look b).line (parts_of pieces)
        (All-map Same (λ (piece : PlacedPart). piece.part) pieces (placed_parts_at-same (line_kind frame.rows y) y (kind-in y)))
        ∙ ap (λ shown. line_items (in_bytes look b) (parts_of shown)) (placed_parts_at-equal (line_kind frame.rows y) y (kind-in y))

    pub table_text-same : table_text look a colors widths heights ≡ table_text look b colors widths heights
    table_text-same =
        let feed : ℕ → List ℕ = λ y. cond (y == 0) [] (encode_utf8 0x0a) in
        flat_map-same (λ y. feed y ++ grid_line (in_bytes look a) first_grid y) (λ y. feed y ++ grid_line (in_bytes look b) second_grid y) (range_with_len 0 (line_count frame))
        (λ k d below. let y = get_or (range_with_len 0 (line_count frame)) k d in ap (λ line. feed y ++ line) (grid_line-same y))
