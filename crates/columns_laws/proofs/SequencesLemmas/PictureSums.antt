-- The lines of cells in a picture without spans: each line of a cell is there at most once.
use Rattle.std.proofs.Common.{◌≡◌, ◌==◌, ◌+◌, ◌-◌, ◌<◌, ◌≤◌, ℕ, zero, suc, Bool, true, false, List, [], ◌∷◌, ◌++◌, length, map, replicate, get_or, if◌then◌else◌, refl, ap, sym, ◌∙◌, arith}
use Rattle.std.specs.Prelude.{nat_lt, flat_map, unwrap_or, Option}
use Rattle.grid_config_values.specs.Glyphs.{boundary_kind, crossing, in_row}
use Rattle.std.specs.List.{range_with_len}
use Rattle.std.proofs.lemmas.Bool.Decides.{nat_tests}
use Rattle.grid_config.specs.Colors.{Color}
use Rattle.grid_config_values.specs.declared.position.Position.{Position}
use Rattle.papergrid_picture.specs.Blocks.{Content, Fill, Glyph, Grid, Part, TextLine, block, fill, free_above, text_line}
use Rattle.papergrid_picture.specs.Frame.{Boundary, InMargin, LineKind, Row, Tracks, block_height, block_width, boundary_at, column_count, line_count, line_kind, row_count, thickness, track_at}
use Rattle.papergrid_picture.specs.Picture.{PlacedPart, across, along, at, blank, block_parts, boundary_part, crossing_at, edge, laid, margin_line, picture_line, placed_parts_at, row_part, seen, upright}
use Rattle.papergrid_picture.proofs.Frames.{boundary-first, boundary-next, kind-above, kind-below, kind-boundary, kind-row}

-- ---- sums over numbers

abbrev pub rsum : (ℕ → ℕ) → ℕ → ℕ → ℕ
rsum f a zero = 0
rsum f a (suc n) = f a + rsum f (a + 1) n

pub rsum-le : (f g : ℕ → ℕ) (a n : ℕ) → ((k : ℕ) → a ≤ k → k < a + n → f k ≤ g k) → rsum f a n ≤ rsum g a n
rsum-le f g a zero each = omega arith
rsum-le f g a (suc n) each =
    let first = each a (omega arith) (omega arith) in
    let rest = rsum-le f g (a + 1) n (λ k low high. each k (omega (arith, low)) (omega (arith, high))) in
    omega (arith, first, rest)

pub rsum-none : (f : ℕ → ℕ) (a n : ℕ) → ((k : ℕ) → a ≤ k → k < a + n → f k ≡ 0) → rsum f a n ≡ 0
rsum-none f a zero each = refl
rsum-none f a (suc n) each =
    let first = each a (omega arith) (omega arith) in
    let rest = rsum-none f (a + 1) n (λ k low high. each k (omega (arith, low)) (omega (arith, high))) in
    omega (arith, first, rest)

pub rsum-add : (f : ℕ → ℕ) (a n m : ℕ) → rsum f a (n + m) ≡ rsum f a n + rsum f (a + n) m
rsum-add f a zero m =
    let none : zero + m ≡ m = omega arith in
    let same : a + zero ≡ a = omega arith in
    ap (rsum f a) none ∙ sym (ap (λ b. rsum f b m) same) ∙ (let e : rsum f (a + zero) m ≡ 0 + rsum f (a + zero) m = omega arith in e)
rsum-add f a (suc n) m =
    let sum : suc n + m ≡ suc (n + m) = omega arith in
    let place : a + 1 + n ≡ a + suc n = omega arith in
    let rest = rsum-add f (a + 1) n m in
    omega (arith, ap (rsum f a) sum, rest, ap (λ b. rsum f b m) place)

pub rsum-plus : (f g : ℕ → ℕ) (a n : ℕ) → rsum (λ k. f k + g k) a n ≡ rsum f a n + rsum g a n
rsum-plus f g a zero = refl
rsum-plus f g a (suc n) = let rest = rsum-plus f g (a + 1) n in omega (arith, rest)

pub rsum-swap : (f : ℕ → ℕ → ℕ) (a n b m : ℕ) → rsum (λ y. rsum (f y) b m) a n ≡ rsum (λ j. rsum (λ y. f y j) a n) b m
rsum-swap f a zero b m = sym (rsum-none (λ j. 0) b m (λ k low high. refl))
rsum-swap f a (suc n) b m = ap (λ k. rsum (f a) b m + k) (rsum-swap f (a + 1) n b m) ∙ sym (rsum-plus (f a) (λ j. rsum (λ y. f y j) (a + 1) n) b m)

-- ---- weights of cell lines

module _ (w : Position → ℕ → ℕ) where
  abbrev pub content_weight : Content → ℕ
  content_weight (Fill c) = 0
  content_weight (Glyph c) = 0
  content_weight (TextLine cell k) = w cell k

  abbrev pub parts_weight : List Part → ℕ
  parts_weight [] = 0
  parts_weight (part ∷ parts) = content_weight part.content + parts_weight parts

  abbrev pub pieces_weight : List PlacedPart → ℕ
  pieces_weight [] = 0
  pieces_weight (piece ∷ pieces) = content_weight piece.part.content + pieces_weight pieces

  abbrev pub lines_weight : List (List Part) → ℕ
  lines_weight [] = 0
  lines_weight (line ∷ lines) = parts_weight line + lines_weight lines

  pieces-both : (xs ys : List PlacedPart) → pieces_weight (xs ++ ys) ≡ pieces_weight xs + pieces_weight ys
  pieces-both [] ys = omega arith
  pieces-both (x ∷ xs) ys = omega (arith, pieces-both xs ys)

  lines-both : (xs ys : List (List Part)) → lines_weight (xs ++ ys) ≡ lines_weight xs + lines_weight ys
  lines-both [] ys = omega arith
  lines-both (x ∷ xs) ys = omega (arith, lines-both xs ys)

  laid-weight : (left : ℕ) (parts : List Part) → pieces_weight (laid left parts) ≡ parts_weight parts
  laid-weight left [] = refl
  laid-weight left (part ∷ parts) = ap (λ n. content_weight part.content + n) (laid-weight (left + part.width) parts)

  lines-same : (n : ℕ) (line : List Part) → parts_weight line ≡ 0 → lines_weight (replicate n line) ≡ 0
  lines-same zero line none = refl
  lines-same (suc n) line none = omega (arith, none, lines-same n line none)

  over-columns : (part : ℕ → List PlacedPart) (a n : ℕ) → pieces_weight (flat_map part (range_with_len a n)) ≡ rsum (λ j. pieces_weight (part j)) a n
  over-columns part a zero = refl
  over-columns part a (suc n) = pieces-both (part a) (flat_map part (range_with_len (a + 1) n)) ∙ ap (λ k. pieces_weight (part a) + k) (over-columns part (a + 1) n)

  over-lines : (line : ℕ → List Part) (a n : ℕ) → lines_weight (map line (range_with_len a n)) ≡ rsum (λ k. parts_weight (line k)) a n
  over-lines line a zero = refl
  over-lines line a (suc n) = ap (λ k. parts_weight (line a) + k) (over-lines line (a + 1) n)

  -- lines one after the other, each at most once
  by-number : (lines : List (List Part)) (t n : ℕ) → rsum (λ y. parts_weight (get_or lines (y - t) [])) t n ≤ lines_weight lines
  by-number [] t n = let none = rsum-none (λ y. parts_weight (get_or [] (y - t) [])) t n (λ k low high. refl) in omega (arith, none)
  by-number (line ∷ lines) t zero = omega arith
  by-number (line ∷ lines) t (suc n) =
      let here : t - t ≡ 0 = omega arith in
      let first : parts_weight (get_or (line ∷ lines) (t - t) []) ≡ parts_weight line = ap (λ k. parts_weight (get_or (line ∷ lines) k [])) here in
      let same = rsum-le (λ y. parts_weight (get_or (line ∷ lines) (y - t) [])) (λ y. parts_weight (get_or lines (y - (t + 1)) [])) (t + 1) n
      (λ k low high. let next : k - t ≡ suc (k - (t + 1)) = omega (arith, low) in let e = ap (λ m. parts_weight (get_or (line ∷ lines) m [])) next in omega (arith, e)) in
      omega (arith, first, same, by-number lines (t + 1) n)

  module _ (grid : Grid) (behind : (cell : Position) → w cell (length (grid.measures cell)) ≡ 0) (itself : (i j : ℕ) → seen grid i j ≡ at i j) where
    line-weight : (cell : Position) (width k : ℕ) → parts_weight (text_line grid cell width k) ≡ w cell k
    line-weight cell width k = omega arith

    block-weight : (cell : Position) (width height : ℕ) → lines_weight (block grid cell width height) ≡ rsum (w cell) 0 (length (grid.measures cell))
    block-weight cell width height =
        let look = grid.frame.look in
        let padding = look.padding cell in
        let color = look.padding_color cell in
        let count = length (grid.measures cell) in
        let free = height - padding.top.size - count - padding.bottom.size in
        let above = free_above (look.alignment_vertical cell) free in
        let top = replicate padding.top.size (fill width padding.top.fill color.top ∷ []) in
        let blank_line = text_line grid cell width count in
        let lines = map (text_line grid cell width) (range_with_len 0 count) in
        let bottom = replicate padding.bottom.size (fill width padding.bottom.fill color.bottom ∷ []) in
        let none : parts_weight blank_line ≡ 0 = line-weight cell width count ∙ behind cell in
        let shown : lines_weight lines ≡ rsum (w cell) 0 count = over-lines (text_line grid cell width) 0 count ∙ (λ k. rsum (λ m. line-weight cell width m k) 0 count) in
        omega (
          arith,
          lines-both top (replicate above blank_line ++ (lines ++ (replicate (free - above) blank_line ++ bottom))),
          lines-both (replicate above blank_line) (lines ++ (replicate (free - above) blank_line ++ bottom)),
          lines-both lines (replicate (free - above) blank_line ++ bottom),
          lines-both (replicate (free - above) blank_line) bottom,
          lines-same padding.top.size (fill width padding.top.fill color.top ∷ []) refl,
          lines-same above blank_line none,
          lines-same (free - above) blank_line none,
          lines-same padding.bottom.size (fill width padding.bottom.fill color.bottom ∷ []) refl,
          shown,
        )

    edge-weight : (content : ℕ → Content) → ((c : ℕ) → content_weight (content c) ≡ 0) → (glyph : Option ℕ) (color : Option Color) (j : ℕ) → pieces_weight (edge grid content glyph color j) ≡ 0
    edge-weight content none glyph color j = by (grid.frame.columns.has_boundary j)
      where
        by : (b : Bool) → pieces_weight (if b then laid (boundary_at grid.frame.columns j) (record { width = 1; content = content (unwrap_or glyph blank); color = color } ∷ []) else []) ≡ 0
        by true = omega (arith, none (unwrap_or glyph blank))
        by false = refl

    upright-weight : (j : ℕ) → pieces_weight (upright grid j) ≡ 0
    upright-weight j =
        let kind = boundary_kind j (column_count grid.frame) in
        edge-weight Fill (λ c. refl) (in_row grid.frame.look.borders kind) (in_row grid.frame.look.borders_color kind) j

    corner-weight : (i j : ℕ) → pieces_weight (crossing_at grid i j) ≡ 0
    corner-weight i j =
        let row = boundary_kind i (row_count grid.frame) in
        let column = boundary_kind j (column_count grid.frame) in
        edge-weight Glyph (λ c. refl) (crossing grid.frame.look.borders row column) (crossing grid.frame.look.borders_color row column) j

    -- what line y shows of a cell
    abbrev cell_weight : ℕ → ℕ → ℕ → ℕ
    cell_weight i y j = parts_weight (get_or (block grid (at i j) (block_width grid.frame (at i j)) (block_height grid.frame (at i j))) (y - track_at grid.frame.rows i) [])

    row-part : (i y j : ℕ) → pieces_weight (row_part grid i y j) ≡ cell_weight i y j
    row-part i y j =
        let cell_pieces : Position → List PlacedPart = λ cell. if cell.col == j then upright grid j ++ block_parts grid cell y else [] in
        let here : (j == j) ≡ true = grind (arith, nat_tests) in
        ap (λ (cell : Position). pieces_weight (cell_pieces cell)) (itself i j) ∙ ap (λ (b : Bool). pieces_weight (if b then upright grid j ++ block_parts grid (at i j) y else [])) here
        ∙ pieces-both (upright grid j) (block_parts grid (at i j) y) ∙ ap (λ n. n + pieces_weight (block_parts grid (at i j) y)) (upright-weight j)
        ∙ (let e : 0 + pieces_weight (block_parts grid (at i j) y) ≡ pieces_weight (block_parts grid (at i j) y) = omega arith in e)
        ∙ laid-weight (track_at grid.frame.columns j) (get_or (block grid (at i j) (block_width grid.frame (at i j)) (block_height grid.frame (at i j))) (y - track_at grid.frame.rows i) [])

    boundary-part : (i y j : ℕ) → pieces_weight (boundary_part grid i y j) ≡ 0
    boundary-part i y j =
        let cell_pieces : Position → List PlacedPart = λ cell. if nat_lt cell.row i then (if cell.col == j then crossing_at grid i j ++ block_parts grid cell y else []) else crossing_at grid i j ++ along grid i j in
        let below : nat_lt i i ≡ false = grind (arith, nat_tests) in
        ap (λ (cell : Position). pieces_weight (cell_pieces cell)) (itself i j)
        ∙ ap (λ (b : Bool). pieces_weight (if b then (if (at i j).col == j then crossing_at grid i j ++ block_parts grid (at i j) y else []) else crossing_at grid i j ++ along grid i j)) below
        ∙ pieces-both (crossing_at grid i j) (along grid i j) ∙ ap (λ n. n + pieces_weight (along grid i j)) (corner-weight i j)

    across-weight : (part : ℕ → List PlacedPart) (last : List PlacedPart) → pieces_weight last ≡ 0 → pieces_weight (across grid part last) ≡ rsum (λ j. pieces_weight (part j)) 0 (column_count grid.frame)
    across-weight part last none =
        let margin = grid.frame.look.margin in
        let color = grid.frame.look.margin_color in
        let columns = flat_map part (range_with_len 0 (column_count grid.frame)) in
        let right = laid (track_at grid.frame.columns (column_count grid.frame)) (fill margin.right.size margin.right.fill color.right ∷ []) in
        omega (arith, pieces-both columns (last ++ right), pieces-both last right, none, over-columns part 0 (column_count grid.frame))

    -- what a line shows of cells: of a row, and else nothing
    abbrev at_kind : LineKind → ℕ → ℕ
    at_kind (Row i) y = rsum (cell_weight i y) 0 (column_count grid.frame)
    at_kind (Boundary i) y = 0
    at_kind InMargin y = 0

    kind-weight : (p : LineKind) (y : ℕ) → pieces_weight (placed_parts_at grid p y) ≡ at_kind p y
    kind-weight (Row i) y =
        across-weight (row_part grid i y) (upright grid (column_count grid.frame)) (upright-weight (column_count grid.frame)) ∙ (λ k. rsum (λ j. row-part i y j k) 0 (column_count grid.frame))
    kind-weight (Boundary i) y =
        across-weight (boundary_part grid i y) (crossing_at grid i (column_count grid.frame)) (corner-weight i (column_count grid.frame))
        ∙ rsum-none (λ j. pieces_weight (boundary_part grid i y j)) 0 (column_count grid.frame) (λ j low high. boundary-part i y j)
    kind-weight InMargin y = by (nat_lt y grid.frame.rows.margin)
      where
        by : (b : Bool) → pieces_weight (if b then margin_line grid grid.frame.look.margin.top grid.frame.look.margin_color.top else margin_line grid grid.frame.look.margin.bottom grid.frame.look.margin_color.bottom) ≡ 0
        by true = refl
        by false = refl

    -- ---- all lines

    abbrev rows : Tracks
    rows = grid.frame.rows

    abbrev shown : ℕ → ℕ
    shown y = at_kind (line_kind rows y) y

    -- the lines of the cells of a row
    abbrev row_weight : ℕ → ℕ
    row_weight i = rsum (λ j. rsum (w (at i j)) 0 (length (grid.measures (at i j)))) 0 (column_count grid.frame)

    row-shown : (i : ℕ) → i < length rows.sizes → rsum shown (track_at rows i) (get_or rows.sizes i 0) ≤ row_weight i
    row-shown i inside =
        let t = track_at rows i in
        let h = get_or rows.sizes i 0 in
        let each = rsum-le shown (λ y. rsum (cell_weight i y) 0 (column_count grid.frame)) t h
        (λ y low high. let e = ap (λ (p : LineKind). at_kind p y) (kind-row rows i y inside low high) in omega (arith, e)) in
        let cells = rsum-le (λ j. rsum (λ y. cell_weight i y j) t h) (λ j. rsum (w (at i j)) 0 (length (grid.measures (at i j)))) 0 (column_count grid.frame)
        (λ j low high.
        let all = block grid (at i j) (block_width grid.frame (at i j)) (block_height grid.frame (at i j)) in
        omega (arith, by-number all t h, block-weight (at i j) (block_width grid.frame (at i j)) (block_height grid.frame (at i j)))) in
        omega (arith, each, rsum-swap (cell_weight i) t h 0 (column_count grid.frame), cells)

    at-boundary : (i : ℕ) → i ≤ length rows.sizes → (there : Bool) → rows.has_boundary i ≡ there → rsum shown (boundary_at rows i) (thickness there) ≡ 0
    at-boundary i inside true e = let here = ap (λ (p : LineKind). at_kind p (boundary_at rows i)) (kind-boundary rows i inside e) in omega (arith, here)
    at-boundary i inside false e = refl

    -- up to boundary i
    up-to : (i : ℕ) → i ≤ length rows.sizes → rsum shown 0 (boundary_at rows i) ≤ rsum row_weight 0 i
    up-to zero inside =
        let first = boundary-first rows in
        let none = rsum-none shown 0 (boundary_at rows 0) (λ y low high. ap (λ (p : LineKind). at_kind p y) (kind-above rows y (omega (arith, high, first)))) in
        omega (arith, none)
    up-to (suc i) inside =
        let within : i < length rows.sizes = omega (arith, inside) in
        let low : i ≤ length rows.sizes = omega (arith, inside) in
        let th = thickness (rows.has_boundary i) in
        let h = get_or rows.sizes i 0 in
        let number : i + 1 ≡ suc i = omega arith in
        let next : boundary_at rows (suc i) ≡ boundary_at rows i + th + h = ap (boundary_at rows) (sym number) ∙ boundary-next rows i within in
        let zero_and : 0 + (boundary_at rows i + th) ≡ track_at rows i = omega arith in
        let from : 0 + boundary_at rows i ≡ boundary_at rows i = omega arith in
        let last : 0 + i ≡ i = omega arith in
        let behind : rsum row_weight 0 (suc i) ≡ rsum row_weight 0 i + row_weight i =
        ap (rsum row_weight 0) (sym number) ∙ rsum-add row_weight 0 i 1 ∙ ap (λ k. rsum row_weight 0 i + (row_weight k + 0)) last ∙ (let e : rsum row_weight 0 i + (row_weight i + 0) ≡ rsum row_weight 0 i + row_weight i = omega arith in e) in
        omega (
          arith,
          ap (rsum shown 0) next,
          rsum-add shown 0 (boundary_at rows i + th) h,
          rsum-add shown 0 (boundary_at rows i) th,
          ap (λ k. rsum shown k h) zero_and,
          ap (λ k. rsum shown k th) from,
          at-boundary i low (rows.has_boundary i) refl,
          row-shown i within,
          up-to i low,
          behind,
        )

    -- all lines that there are
    pub all-shown : rsum (λ y. pieces_weight (picture_line grid y)) 0 (line_count grid.frame) ≤ rsum row_weight 0 (row_count grid.frame)
    all-shown = by (row_count grid.frame == 0) (column_count grid.frame == 0)
      where
        count : ℕ
        count = length rows.sizes

        every : count ≤ length rows.sizes
        every = omega arith

        whole : ℕ
        whole = track_at rows count + grid.frame.look.margin.bottom.size

        by-kinds : rsum (λ y. pieces_weight (picture_line grid y)) 0 whole ≡ rsum shown 0 whole
        by-kinds = λ k. rsum (λ y. kind-weight (line_kind rows y) y k) 0 whole

        after : rsum shown (track_at rows count) grid.frame.look.margin.bottom.size ≡ 0
        after = rsum-none shown (track_at rows count) grid.frame.look.margin.bottom.size (λ y low high. ap (λ (p : LineKind). at_kind p y) (kind-below rows y low))

        total : rsum (λ y. pieces_weight (picture_line grid y)) 0 whole ≤ rsum row_weight 0 count
        total =
            let th = thickness (rows.has_boundary count) in
            let zero_and : 0 + track_at rows count ≡ track_at rows count = omega arith in
            let from : 0 + boundary_at rows count ≡ boundary_at rows count = omega arith in
            omega (
              arith,
              by-kinds,
              rsum-add shown 0 (track_at rows count) grid.frame.look.margin.bottom.size,
              rsum-add shown 0 (boundary_at rows count) th,
              ap (λ k. rsum shown k grid.frame.look.margin.bottom.size) zero_and,
              ap (λ k. rsum shown k th) from,
              at-boundary count every (rows.has_boundary count) refl,
              after,
              up-to count every,
            )

        by : (no_rows no_columns : Bool) → rsum (λ y. pieces_weight (picture_line grid y)) 0 (if no_rows then 0 else if no_columns then 0 else whole) ≤ rsum row_weight 0 count
        by true no_columns = omega arith
        by false true = omega arith
        by false false = total
