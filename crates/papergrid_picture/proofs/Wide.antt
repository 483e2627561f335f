-- A line that shows a text that does not fit is wider than the table.
use Rattle.std.proofs.Common.{◌≡◌, ◌==◌, ℕ, zero, suc, ◌+◌, ◌-◌, ◌<◌, ◌≤◌, Bool, true, false, cond, inl, inr, List, [], ◌∷◌, ◌++◌, map, length, replicate, get_or, refl, ap, sym, subst, ◌∙◌, arith}
use Rattle.std.specs.Prelude.{flat_map, nat_lt, slice_index}
use Rattle.std.specs.List.{AllByRecursion, range_with_len}
use Rattle.std.proofs.lemmas.Bool.{cases_lt}
use Rattle.std.proofs.lemmas.Bool.Decides.{nat_tests}
use Rattle.std.proofs.lemmas.List.{length-replicate}
use Rattle.std.proofs.lemmas.List.FromFn.{get_or-map-range_with_len, length-map-range_with_len}
use Rattle.grid_config_values.specs.declared.position.Position.{Position}
use Rattle.grid_config_values.specs.Glyphs.{boundary_kind, crossing, in_row}
use Rattle.grid_config_values.specs.declared.spans.extent.Extent.{Extent}
use Rattle.grid_config_values.specs.Spans.Rectangles.{IsInside}
use Rattle.grid_config_values.specs.Spans.Spans.{IsInTable}
use Rattle.papergrid_picture.specs.Frame.{Boundary, InMargin, LineKind, Row, Tracks, block_height, block_width, boundary_at, column_count, full_line_width, line_count, line_kind, row_count, thickness, track_at}
use Rattle.papergrid_picture.specs.Blocks.{Fill, Glyph, Grid, block, fill, free_above, greatest, text_line}
use Rattle.papergrid_picture.specs.Picture.{PlacedPart, across, along, block_parts, boundary_part, crossing_at, laid, parts_of, picture_line, placed_parts_at, row_part, seen, upright}
use Rattle.papergrid_picture.specs.Tiling.{BeginsBehindMargin, HasGoodSpans, HasRoom, IsLineOf, ShowsAllLines, ShowsKind, Tiles}
use Rattle.papergrid_picture.proofs.Frames.{boundary-first, boundary-next}
use Rattle.papergrid_picture.proofs.LineKinds.{kind-shown}
use Rattle.papergrid_picture.proofs.Seen.{seen-above, seen-goes_on, seen-holds, seen-in_table, seen-inside}
use Rattle.papergrid_picture.proofs.Related.{block-all}
use Rattle.papergrid_picture.proofs.Tiling.{All-inside, Goes-columns, IsLine, Tiles-laid, along-tiles, block-ends, block-ends_below, block-high, edge-tiles, free_above-within, located, order, track-before, track-before_line, widths_of, within}

-- the pieces reach at least from a to b, side by side
abbrev pub Reaches : ℕ → List PlacedPart → ℕ → Type 0
Reaches a pieces b = b ≤ a + widths_of (parts_of pieces)

pub Tiles-widths : (a b : ℕ) (pieces : List PlacedPart) → Tiles a pieces b → a + widths_of (parts_of pieces) ≡ b
Tiles-widths a b [] tiles = omega (arith, tiles)
Tiles-widths a b (piece ∷ pieces) tiles = omega (arith, Tiles-widths (a + piece.part.width) b pieces tiles.1)

widths-append : (xs ys : List PlacedPart) → widths_of (parts_of (xs ++ ys)) ≡ widths_of (parts_of xs) + widths_of (parts_of ys)
widths-append [] ys = omega arith
widths-append (x ∷ xs) ys = omega (arith, widths-append xs ys)

Reaches-nowhere : (a b : ℕ) → a ≡ b → Reaches a [] b
Reaches-nowhere a b same = omega (arith, same)

Reaches-both : (a b c : ℕ) (xs ys : List PlacedPart) → Reaches a xs b → Reaches b ys c → Reaches a (xs ++ ys) c
Reaches-both a b c xs ys first second = omega (arith, widths-append xs ys, first, second)

-- pieces that tile reach as far, and no further
reach-of : (a b more : ℕ) (pieces : List PlacedPart) → Tiles a pieces b → Reaches (a + more) pieces (b + more)
reach-of a b more pieces tiles = omega (arith, Tiles-widths a b pieces tiles)

-- ---- blocks

module _ (grid : Grid) (cell : Position) (width : ℕ) where
  text_line-least : (k : ℕ) → width ≤ widths_of (text_line grid cell width k)
  text_line-least k = omega arith

  text_line-more : (k : ℕ) → (let padding = grid.frame.look.padding cell in width < slice_index (grid.measures cell) k + padding.left.size + padding.right.size) → width + 1 ≤ widths_of (text_line grid cell width k)
  text_line-more k wide = omega (arith, wide)

  block-least : (height : ℕ) → AllByRecursion (λ parts. width ≤ widths_of parts) (block grid cell width height)
  block-least height = block-all (λ parts. width ≤ widths_of parts) grid cell width (omega arith) (omega arith) text_line-least height

get_or-past : {A : Type 0} (xs ys : List A) (i : ℕ) (d : A) → get_or (xs ++ ys) (length xs + i) d ≡ get_or ys i d
get_or-past [] ys i d = let same : 0 + i ≡ i = omega arith in ap (λ k. get_or ys k d) same
get_or-past (x ∷ xs) ys i d =
    let same : length (x ∷ xs) + i ≡ suc (length xs + i) = omega arith in
    ap (λ k. get_or (x ∷ (xs ++ ys)) k d) same ∙ get_or-past xs ys i d

get_or-front : {A : Type 0} (xs ys : List A) (i : ℕ) (d : A) → i < length xs → get_or (xs ++ ys) i d ≡ get_or xs i d
get_or-front [] ys i d inside = absurd (omega (arith, inside))
get_or-front (x ∷ xs) ys zero d inside = refl
get_or-front (x ∷ xs) ys (suc i) d inside = get_or-front xs ys i d (omega (arith, inside))

module _ (grid : Grid) (cell : Position) (width height : ℕ) where
  abbrev count : ℕ
  count = length (grid.measures cell)

  abbrev free : ℕ
  free = let padding = grid.frame.look.padding cell in height - padding.top.size - count - padding.bottom.size

  abbrev above : ℕ
  above = free_above (grid.frame.look.alignment_vertical cell) free

  abbrev top : ℕ
  top = (grid.frame.look.padding cell).top.size

  -- where line k of the text is in the block
  block-line : (k : ℕ) → k < count → get_or (block grid cell width height) (top + (above + k)) [] ≡ text_line grid cell width k
  block-line k inside =
      let look = grid.frame.look in
      let padding = look.padding cell in
      let color = look.padding_color cell in
      let line = text_line grid cell width in
      let pads = replicate top (fill width padding.top.fill color.top ∷ []) in
      let blanks = replicate above (line count) in
      let lines = map line (range_with_len 0 count) in
      let behind = replicate (free - above) (line count) ++ replicate padding.bottom.size (fill width padding.bottom.fill color.bottom ∷ []) in
      let same : 0 + k ≡ k = omega arith in
      let long : k < length lines = omega (arith, length-map-range_with_len line 0 count, inside) in
      ap (λ n. get_or (pads ++ (blanks ++ (lines ++ behind))) (n + (above + k)) []) (sym (length-replicate top (fill width padding.top.fill color.top ∷ [])))
      ∙ get_or-past pads (blanks ++ (lines ++ behind)) (above + k) []
      ∙ ap (λ n. get_or (blanks ++ (lines ++ behind)) (n + k) []) (sym (length-replicate above (line count)))
      ∙ get_or-past blanks (lines ++ behind) k []
      ∙ get_or-front lines behind k [] long
      ∙ get_or-map-range_with_len line 0 count k k [] inside same

-- some line is the widest
widest-line : (measures : List ℕ) → 0 < length measures → (k : ℕ) × (k < length measures) × (slice_index measures k ≡ greatest measures)
widest-line [] some = absurd (omega (arith, some))
widest-line (n ∷ []) some = (0, omega arith, omega arith)
widest-line (n ∷ m ∷ ms) some =
    let rest = widest-line (m ∷ ms) (omega arith) in
    elim (cases_lt n (greatest (m ∷ ms))) [
      | inl less ↦ (suc rest.0, omega (arith, rest.1), omega (arith, rest.2, less))
      | inr more ↦ (0, omega arith, omega (arith, more))
    ]

-- ---- a line that shows a cell

module _ (grid : Grid) (spans : List (Position × Extent)) (good : HasGoodSpans grid spans) (margins : BeginsBehindMargin grid.frame) where
  abbrev columns : Tracks
  columns = grid.frame.columns

  abbrev rows : Tracks
  rows = grid.frame.rows

  abbrev columns_in : ℕ
  columns_in = column_count grid.frame

  abbrev span_of : Position → ℕ
  span_of cell = (grid.frame.look.extent cell).columns

  -- row r in line y, or the boundary before it: the cells that show there
  module _ (r y : ℕ) (is_there : Position → Bool) (edge : ℕ → List PlacedPart)
      (in_row : (j : ℕ) → j < columns_in → is_there (seen grid r j) ≡ true → r < row_count grid.frame)
      (edges : (j : ℕ) → Tiles (boundary_at columns j) (edge j) (track_at columns j))
      (in_line : (j : ℕ) → j < columns_in → is_there (seen grid r j) ≡ true → y - track_at rows (seen grid r j).row < block_height grid.frame (seen grid r j))
      (n : ℕ) (inside : n < columns_in) (shown : is_there (seen grid r n) ≡ true) (own : (seen grid r n).col ≡ n)
      (wide : block_width grid.frame (seen grid r n) + 1 ≤ widths_of (parts_of (block_parts grid (seen grid r n) y))) where
    -- after the block of the cell in column n the pieces reach one column further
    abbrev more : ℕ → ℕ
    more j = cond (nat_lt n j) 1 0

    more-past : (j : ℕ) → n < j → more j ≡ 1
    more-past j past = let test : nat_lt n j ≡ true = grind (arith, nat_tests, past) in ap (λ b. cond b 1 0) test

    more-not_past : (j : ℕ) → j ≤ n → more j ≡ 0
    more-not_past j before = let test : nat_lt n j ≡ false = grind (arith, nat_tests, before) in ap (λ b. cond b 1 0) test

    more-one : (j : ℕ) → more j ≤ 1
    more-one j = elim (nat_lt n j) as (λ b. cond b 1 0 ≤ 1) [ true ↦ omega arith | false ↦ omega arith ]

    abbrev boundary : ℕ → ℕ
    boundary j = boundary_at columns j + more j

    abbrev track : ℕ → ℕ
    track j = track_at columns j + more j

    abbrev pieces_of : Position → List PlacedPart
    pieces_of cell = block_parts grid cell y

    block-reaches : (j : ℕ) → j < columns_in → is_there (seen grid r j) ≡ true → block_width grid.frame (seen grid r j) ≤ widths_of (parts_of (pieces_of (seen grid r j)))
    block-reaches j column here =
        let cell = seen grid r j in
        let width = block_width grid.frame cell in
        let height = block_height grid.frame cell in
        let k = y - track_at rows cell.row in
        let lines = block grid cell width height in
        let line_there : k < length lines = omega (arith, in_line j column here, block-high grid cell width height) in
        let least : width ≤ widths_of (get_or lines k []) = All-inside (λ parts. width ≤ widths_of parts) lines k [] line_there (block-least grid cell width height) in
        omega (arith, least, Tiles-widths (track_at columns cell.col) (track_at columns cell.col + widths_of (get_or lines k [])) (pieces_of cell) (Tiles-laid (track_at columns cell.col) (get_or lines k []) (track_at columns cell.col + widths_of (get_or lines k [])) refl))

    goes-on : (j k : ℕ) → j < columns_in → k < columns_in → is_there (seen grid r j) ≡ true → (seen grid r j).col ≤ k → k < (seen grid r j).col + span_of (seen grid r j) → seen grid r k ≡ seen grid r j
    goes-on j k column other here from below =
        let row = in_row j column here in
        let held = seen-holds grid spans good r j in
        seen-goes_on grid spans good r j r k row column row other (record { below = held.below; above = held.above; right = from; left = below })

    block-part : (j : ℕ) → j < columns_in → is_there (seen grid r j) ≡ true → (seen grid r j).col ≡ j → Reaches (track j) (pieces_of (seen grid r j)) (boundary ((seen grid r j).col + span_of (seen grid r j)))
    block-part j column here first =
        let cell = seen grid r j in
        let held = seen-holds grid spans good r j in
        let fits = seen-inside grid spans good r j (in_row j column here) column in
        let end = cell.col + span_of cell in
        let ends : track_at columns cell.col + block_width grid.frame cell ≡ boundary_at columns end = block-ends grid spans good cell (omega (arith, held.right, held.left)) fits.columns_fit in
        let start : track_at columns cell.col ≡ track_at columns j = ap (track_at columns) first in
        let least = block-reaches j column here in
        elim (cases_lt n j) [
          | inl past ↦ omega (arith, more-past j past, more-one end, ends, start, least)
          | inr before ↦ elim (j == n) as (λ b. (j == n) ≡ b → Reaches (track j) (pieces_of cell) (boundary end)) [
            | true ↦ λ e.
                let same : n ≡ j = grind (arith, nat_tests, e) in
                let strict : block_width grid.frame cell + 1 ≤ widths_of (parts_of (pieces_of cell)) = subst (λ k. block_width grid.frame (seen grid r k) + 1 ≤ widths_of (parts_of (pieces_of (seen grid r k)))) same wide in
                omega (arith, more-one end, ends, start, strict)
            | false ↦ λ e.
                let earlier : j < n = grind (arith, nat_tests, e, before) in
                elim (cases_lt n end) [
                  | inl open_there ↦
                      let there : seen grid r n ≡ cell = goes-on j n column inside here (omega (arith, first, earlier)) open_there in
                      absurd (omega (arith, ap (λ (p : Position). p.col) there, own, first, earlier))
                  | inr done ↦ omega (arith, more-not_past end done, ends, start, least)
                ]
          ] refl
        ]

    wide-line : IsLine Reaches Reaches-nowhere Reaches-both columns_in boundary track (seen grid r) span_of is_there edge (along grid r) pieces_of
    wide-line = record {
      begins = λ j column. (seen-holds grid spans good r j).right;
      ends = λ j column. (seen-holds grid spans good r j).left;
      inside = λ j column here. (seen-inside grid spans good r j (in_row j column here) column).columns_fit;
      goes_on = goes-on;
      edges = λ j. reach-of (boundary_at columns j) (track_at columns j) (more j) (edge j) (edges j);
      alongs = λ j column hidden. along-part j column hidden;
      blocks = block-part;
    }
      where
        along-part : (j : ℕ) → j < columns_in → is_there (seen grid r j) ≡ false → Reaches (track j) (along grid r j) (boundary (j + 1))
        along-part j column hidden =
            let reached = Tiles-widths (track_at columns j) (boundary_at columns (j + 1)) (along grid r j) (along-tiles grid spans good r j column) in
            elim (cases_lt n j) [
              | inl past ↦ omega (arith, reached, more-past j past, more-one (j + 1))
              | inr before ↦ elim (j == n) as (λ b. (j == n) ≡ b → Reaches (track j) (along grid r j) (boundary (j + 1))) [
                | true ↦ λ e.
                    let same : j ≡ n = grind (arith, nat_tests, e) in
                    let no : true ≡ false = sym shown ∙ ap (λ k. is_there (seen grid r k)) (sym same) ∙ hidden in
                    absurd (cc no)
                | false ↦ λ e.
                    let earlier : j < n = grind (arith, nat_tests, e, before) in
                    omega (arith, reached, more-not_past (j + 1) (omega (arith, earlier)))
              ] refl
            ]

    -- the whole line is wider than the table
    pub too-wide : (part : ℕ → List PlacedPart) → part ≡ (λ j. cond (is_there (seen grid r j)) (cond ((seen grid r j).col == j) (edge j ++ pieces_of (seen grid r j)) []) (edge j ++ along grid r j))
        → Tiles 0 (across grid part (edge columns_in)) (full_line_width grid.frame) → ⊥
    too-wide part is tiles =
        let look = grid.frame.look in
        let inner = flat_map part (range_with_len 0 columns_in) in
        let right = laid (track_at columns columns_in) (fill look.margin.right.size look.margin.right.fill look.margin_color.right ∷ []) in
        let reached : Reaches (boundary 0) inner (boundary columns_in) =
        subst (λ (p : ℕ → List PlacedPart). Reaches (boundary 0) (flat_map p (range_with_len 0 columns_in)) (boundary columns_in)) (sym is)
        (Goes-columns Reaches Reaches-nowhere Reaches-both columns_in boundary track (seen grid r) span_of is_there edge (along grid r) pieces_of wide-line) in
        let all = Tiles-widths 0 (full_line_width grid.frame) (across grid part (edge columns_in)) tiles in
        let last = Tiles-widths (boundary_at columns columns_in) (track_at columns columns_in) (edge columns_in) (edges columns_in) in
        omega (
          arith,
          all,
          reached,
          last,
          widths-append inner (edge columns_in ++ right),
          widths-append (edge columns_in) right,
          more-past columns_in inside,
          more-not_past 0 (omega arith),
          boundary-first columns,
          margins,
        )

  -- ---- from lines to cells

  some-lines : (y : ℕ) → y < track_at rows (row_count grid.frame) → 0 < row_count grid.frame → 0 < columns_in → y < line_count grid.frame
  some-lines y before some_rows some_columns =
      let no_rows : (row_count grid.frame == 0) ≡ false = grind (arith, nat_tests, some_rows) in
      let no_columns : (columns_in == 0) ≡ false = grind (arith, nat_tests, some_columns) in
      let counted : line_count grid.frame ≡ track_at rows (row_count grid.frame) + grid.frame.look.margin.bottom.size =
      ap (λ b. cond b 0 (cond (columns_in == 0) 0 (track_at rows (row_count grid.frame) + grid.frame.look.margin.bottom.size))) no_rows
      ∙ ap (λ b. cond b 0 (track_at rows (row_count grid.frame) + grid.frame.look.margin.bottom.size)) no_columns in
      omega (arith, counted, before)

  module _ (tiled : (y : ℕ) → y < line_count grid.frame → Tiles 0 (picture_line grid y) (full_line_width grid.frame)) (i j : ℕ) (row : i < row_count grid.frame) (column : j < columns_in) where
    abbrev cell : Position
    cell = seen grid i j

    abbrev is_wide : ℕ → Type 0
    is_wide y = block_width grid.frame cell + 1 ≤ widths_of (parts_of (block_parts grid cell y))

    in_table : IsInTable (row_count grid.frame) columns_in cell
    in_table = seen-in_table grid spans good i j row column

    fits : IsInside cell (grid.frame.look.extent cell) (row_count grid.frame) columns_in
    fits = seen-inside grid spans good i j row column

    seen-there : (r : ℕ) → cell.row ≤ r → r < cell.row + (grid.frame.look.extent cell).rows → seen grid r cell.col ≡ cell
    seen-there r from before =
        let held = seen-holds grid spans good i j in
        seen-goes_on grid spans good i j r cell.col row column (omega (arith, before, fits.rows_fit)) in_table.1
        (record { below = from; above = before; right = omega arith; left = omega (arith, held.right, held.left) })

    not-wide_at : (y : ℕ) (p : LineKind) → line_kind rows y ≡ p → ShowsKind rows y p → IsLineOf grid cell y → y < line_count grid.frame → is_wide y → ⊥
    not-wide_at y (Row r) is at_row in_line counted wide =
        let found = located grid spans good i j y row column in_line (Row r) at_row in
        let same = seen-there r found.0 found.1 in
        let tiles : Tiles 0 (across grid (row_part grid r y) (upright grid columns_in)) (full_line_width grid.frame) = subst (λ (p : LineKind). Tiles 0 (placed_parts_at grid p y) (full_line_width grid.frame)) is (tiled y counted) in
        too-wide r y (λ _. true) (upright grid)
        (λ l inside here. at_row.0)
        (λ l. edge-tiles grid spans good Fill (in_row grid.frame.look.borders (boundary_kind l columns_in)) (in_row grid.frame.look.borders_color (boundary_kind l columns_in)) l)
        (λ l inside here.
        let held = seen-holds grid spans good r l in
        within grid spans good r l y at_row.0 inside (omega (arith, at_row.2, boundary-next rows r at_row.0)) (omega (arith, at_row.1))
        (track-before_line grid spans good r y (seen grid r l).row held.below at_row.0 at_row.1))
        cell.col in_table.1 refl (ap (λ (p : Position). p.col) same)
        (subst (λ (c : Position). block_width grid.frame c + 1 ≤ widths_of (parts_of (block_parts grid c y))) (sym same) wide)
        (row_part grid r y) refl tiles
    not-wide_at y (Boundary r) is at_boundary in_line counted wide =
        let found = located grid spans good i j y row column in_line (Boundary r) at_boundary in
        let same = seen-there r (omega (arith, found.0)) found.1 in
        let one : track_at rows r ≡ boundary_at rows r + 1 = ap (λ b. boundary_at rows r + thickness b) at_boundary.1 in
        let kind = boundary_kind r (row_count grid.frame) in
        let tiles : Tiles 0 (across grid (boundary_part grid r y) (crossing_at grid r columns_in)) (full_line_width grid.frame) = subst (λ (p : LineKind). Tiles 0 (placed_parts_at grid p y) (full_line_width grid.frame)) is (tiled y counted) in
        too-wide r y (λ c. nat_lt c.row r) (crossing_at grid r)
        (λ l inside here. let above : (seen grid r l).row < r = grind (arith, nat_tests, here) in seen-above grid spans good r l at_boundary.0 inside above)
        (λ l. edge-tiles grid spans good Glyph (crossing grid.frame.look.borders kind (boundary_kind l columns_in)) (crossing grid.frame.look.borders_color kind (boundary_kind l columns_in)) l)
        (λ l inside here.
        let above : (seen grid r l).row < r = grind (arith, nat_tests, here) in
        let in_rows = seen-above grid spans good r l at_boundary.0 inside above in
        within grid spans good r l y in_rows inside (omega (arith, boundary-next rows r in_rows, one, at_boundary.2)) (omega (arith, at_boundary.2))
        (omega (arith, track-before grid spans good (seen grid r l).row r above at_boundary.0, at_boundary.2)))
        cell.col in_table.1 (ap (λ (p : Position). nat_lt p.row r) same ∙ is_less cell.row r found.0) (ap (λ (p : Position). p.col) same)
        (subst (λ (c : Position). block_width grid.frame c + 1 ≤ widths_of (parts_of (block_parts grid c y))) (sym same) wide)
        (boundary_part grid r y) refl tiles
      where
        is_less : (a b : ℕ) → a < b → nat_lt a b ≡ true
        is_less a b less = grind (arith, nat_tests, less)
    not-wide_at y InMargin is in_margin in_line counted wide = absurd (located grid spans good i j y row column in_line InMargin in_margin)

    module _ (high : (0 < length (grid.measures cell)) × ((grid.frame.look.padding cell).top.size + length (grid.measures cell) ≤ block_height grid.frame cell)) where
      room-for : let padding = grid.frame.look.padding cell in greatest (grid.measures cell) + padding.left.size + padding.right.size ≤ block_width grid.frame cell
      room-for =
          let padding = grid.frame.look.padding cell in
          let width = block_width grid.frame cell in
          let height = block_height grid.frame cell in
          let best = widest-line (grid.measures cell) high.0 in
          let k = best.0 in
          let n = above grid cell width height in
          let y = track_at rows cell.row + (padding.top.size + (n + k)) in
          let bound = free_above-within (grid.frame.look.alignment_vertical cell) (free grid cell width height) in
          let below : padding.top.size + (n + k) < height = omega (arith, bound, high.1, best.1) in
          let held = seen-holds grid spans good i j in
          let ends = block-ends_below grid spans good cell (omega (arith, held.below, held.above)) fits.rows_fit in
          let last = order grid spans good (cell.row + (grid.frame.look.extent cell).rows) (row_count grid.frame) fits.rows_fit (omega arith) in
          let counted : y < line_count grid.frame = some-lines y (omega (arith, below, ends, last)) (omega (arith, row)) (omega (arith, column)) in
          let in_line : IsLineOf grid cell y = (omega arith, omega (arith, below)) in
          elim (cases_lt width (greatest (grid.measures cell) + padding.left.size + padding.right.size)) [
            | inl narrow ↦
                let index : y - track_at rows cell.row ≡ padding.top.size + (n + k) = omega arith in
                let line : get_or (block grid cell width height) (y - track_at rows cell.row) [] ≡ text_line grid cell width k = ap (λ m. get_or (block grid cell width height) m []) index ∙ block-line grid cell width height k best.1 in
                let strict : width + 1 ≤ widths_of (text_line grid cell width k) = text_line-more grid cell width k (omega (arith, narrow, best.2)) in
                let parts = get_or (block grid cell width height) (y - track_at rows cell.row) [] in
                let laid_out = Tiles-widths (track_at columns cell.col) (track_at columns cell.col + widths_of parts) (block_parts grid cell y) (Tiles-laid (track_at columns cell.col) parts (track_at columns cell.col + widths_of parts) refl) in
                let wide : is_wide y = omega (arith, strict, ap widths_of line, laid_out) in
                absurd (not-wide_at y (line_kind rows y) refl (kind-shown rows y) in_line counted wide)
            | inr enough ↦ enough
          ]

  -- lines that are tiled fit each cell of which all lines are shown
  pub room-where_tiled : ShowsAllLines grid → ((y : ℕ) → y < line_count grid.frame → Tiles 0 (picture_line grid y) (full_line_width grid.frame)) → HasRoom grid
  room-where_tiled shows tiled = record { room = λ i j row column. room-for tiled i j row column (shows.lines i j row column) }
