-- The pieces of each line are side by side.
use Rattle.std.proofs.Common.{◌≡◌, ◌↔◌, ℕ, zero, suc, ◌+◌, ◌-◌, ◌<◌, ◌≤◌, ◌==◌, Bool, true, false, cond, inl, inr, List, Option, [], ◌∷◌, ◌++◌, map, length, replicate, get_or, refl, ap, sym, subst, ◌∙◌, arith, add-one, append-nil, append_assoc, eq-eqb, length-append}
use Rattle.std.specs.Prelude.{flat_map, nat_lt, slice_index, unwrap_or}
use Rattle.std.specs.List.{AllByRecursion, range_with_len}
use Rattle.std.proofs.lemmas.Bool.{cases_lt}
use Rattle.std.proofs.lemmas.List.{length-replicate}
use Rattle.std.proofs.lemmas.List.Concat.{flat_map-append}
use Rattle.std.proofs.lemmas.List.FromFn.{length-map-range_with_len}
use Rattle.std.proofs.lemmas.Bool.Decides.{nat_tests}
use Rattle.grid_config_values.specs.declared.alignment.AlignmentHorizontal.{AlignmentHorizontal}
use Rattle.grid_config_values.specs.declared.alignment.AlignmentHorizontal.TheVariants.{Left, Center, Right}
use Rattle.grid_config_values.specs.declared.alignment.AlignmentVertical.{AlignmentVertical}
use Rattle.grid_config_values.specs.declared.alignment.AlignmentVertical.TheVariants.{Top, Center as Middle, Bottom}
use Rattle.grid_config_values.specs.declared.position.Position.{Position}
use Rattle.grid_config_values.specs.Glyphs.{boundary_kind, crossing, in_row}
use Rattle.grid_config_values.specs.declared.spans.extent.Extent.{Extent}
use Rattle.grid_config_values.specs.Spans.Rectangles.{Holds, IsInside}
use Rattle.grid_config_values.specs.Spans.Spans.{IsInTable}
use Rattle.grid_config.specs.Colors.{Color}
use Rattle.papergrid_picture.specs.Frame.{Tracks, thickness, boundary_at, track_at, stretch, LineKind, Boundary, Row, InMargin, block_height, block_width, column_count, line_kind, row_count, full_line_width}
use Rattle.papergrid_picture.specs.Blocks.{Content, Fill, Glyph, Part, Grid, block, fill, free_above, free_left, greatest, text_line}
use Rattle.papergrid_picture.specs.Picture.{PlacedPart, across, along, at, blank, block_parts, boundary_part, crossing_at, edge, laid, margin_line, picture_line, placed_parts_at, row_part, seen, upright}
use Rattle.papergrid_picture.specs.Tiling.{BeginsBehindMargin, HasGoodSpans, HasRoom, IsLineOf, ShowsBlock, ShowsKind, Tiles}
use Rattle.papergrid_picture.proofs.Frames.{boundary-behind, boundary-first, boundary-next, boundary-order, range-at, range_with_len-more}
use Rattle.papergrid_picture.proofs.LineKinds.{kind-shown}
use Rattle.papergrid_picture.proofs.Seen.{seen-above, seen-goes_on, seen-holds, seen-in_table, seen-inside}
use Rattle.papergrid_picture.proofs.Related.{block-all}

-- ---- parts side by side

abbrev pub widths_of : List Part → ℕ
widths_of [] = 0
widths_of (part ∷ parts) = part.width + widths_of parts

pub Tiles-laid : (a : ℕ) (parts : List Part) (b : ℕ) → a + widths_of parts ≡ b → Tiles a (laid a parts) b
Tiles-laid a [] b is = omega (arith, is)
Tiles-laid a (part ∷ parts) b is = (refl, Tiles-laid (a + part.width) parts b (omega (arith, is)))

pub Tiles-append : (a b c : ℕ) (xs ys : List PlacedPart) → Tiles a xs b → Tiles b ys c → Tiles a (xs ++ ys) c
Tiles-append a b c [] ys first second = subst (λ n. Tiles n ys c) (sym first) second
Tiles-append a b c (x ∷ xs) ys first second = (first.0, Tiles-append (a + x.part.width) b c xs ys first.1 second)

-- ---- a block

free_left-within : (alignment : AlignmentHorizontal) (free : ℕ) → free_left alignment free ≤ free
free_left-within Left free = omega arith
free_left-within Center free = omega arith
free_left-within Right free = omega arith

pub free_above-within : (alignment : AlignmentVertical) (free : ℕ) → free_above alignment free ≤ free
free_above-within Top free = omega arith
free_above-within Middle free = omega arith
free_above-within Bottom free = omega arith

pub among-greatest : (measures : List ℕ) (k : ℕ) → slice_index measures k ≤ greatest measures
among-greatest [] k = omega arith
among-greatest (n ∷ ns) zero = omega arith
among-greatest (n ∷ ns) (suc k) = omega (arith, among-greatest ns k)

either-counted : (b : Bool) (m w room : ℕ) (free_before : ℕ) → m ≤ w → w ≤ room → free_before ≤ room - (cond b m w) → free_before + m ≤ room
either-counted true m w room free_before within fits bound = omega (arith, within, fits, bound)
either-counted false m w room free_before within fits bound = omega (arith, within, fits, bound)

module _ (grid : Grid) (cell : Position) (width : ℕ) where
  abbrev IsWide : List Part → Type 0
  IsWide parts = widths_of parts ≡ width

  -- the widest line fits between the paddings
  abbrev pub HasRoomFor : Type 0
  HasRoomFor = let padding = grid.frame.look.padding cell in greatest (grid.measures cell) + padding.left.size + padding.right.size ≤ width

  text_line-wide : HasRoomFor → (k : ℕ) → IsWide (text_line grid cell width k)
  text_line-wide fits k =
      let look = grid.frame.look in
      let padding = look.padding cell in
      let measure = slice_index (grid.measures cell) k in
      let widest = greatest (grid.measures cell) in
      let room = width - padding.left.size - padding.right.size in
      let counted = cond (look.line_alignment cell) measure widest in
      let free_before = free_left (look.alignment_horizontal cell) (room - counted) in
      let enough : widest ≤ room = omega (arith, fits) in
      let both : free_before + measure ≤ room = either-counted (look.line_alignment cell) measure widest room free_before (among-greatest (grid.measures cell) k) enough (free_left-within (look.alignment_horizontal cell) (room - counted)) in
      let lined : padding.left.size + (free_before + (measure + ((room - free_before - measure) + (padding.right.size + 0)))) ≡ width = omega (arith, both, fits) in
      lined

  block-wide : HasRoomFor → (height : ℕ) → AllByRecursion IsWide (block grid cell width height)
  block-wide fits height = block-all IsWide grid cell width (omega arith) (omega arith) (text_line-wide fits) height

  -- there are lines for the whole height
  pub block-high : (height : ℕ) → height ≤ length (block grid cell width height)
  block-high height =
      let look = grid.frame.look in
      let padding = look.padding cell in
      let color = look.padding_color cell in
      let count = length (grid.measures cell) in
      let free = height - padding.top.size - count - padding.bottom.size in
      let above = free_above (look.alignment_vertical cell) free in
      let line = text_line grid cell width in
      let top = replicate padding.top.size (fill width padding.top.fill color.top ∷ []) in
      let blanks = replicate above (line count) in
      let lines = map line (range_with_len 0 count) in
      let behind = replicate (free - above) (line count) in
      let bottom = replicate padding.bottom.size (fill width padding.bottom.fill color.bottom ∷ []) in
      omega (
        arith,
        length-append top (blanks ++ (lines ++ (behind ++ bottom))),
        length-append blanks (lines ++ (behind ++ bottom)),
        length-append lines (behind ++ bottom),
        length-append behind bottom,
        length-replicate padding.top.size (fill width padding.top.fill color.top ∷ []),
        length-replicate above (line count),
        length-map-range_with_len line 0 count,
        length-replicate (free - above) (line count),
        length-replicate padding.bottom.size (fill width padding.bottom.fill color.bottom ∷ []),
        free_above-within (look.alignment_vertical cell) free,
      )

pub All-inside : {A : Type 0} (P : A → Type 0) (xs : List A) (i : ℕ) (d : A) → i < length xs → AllByRecursion P xs → P (get_or xs i d)
All-inside P [] i d inside all = absurd (omega (arith, inside))
All-inside P (x ∷ xs) zero d inside all = all.0
All-inside P (x ∷ xs) (suc i) d inside all = All-inside P xs i d (omega (arith, inside)) all.1

module _ (grid : Grid) (cell : Position) where
  pub Tiles-block : (y : ℕ) → HasRoomFor grid cell (block_width grid.frame cell) → y - track_at grid.frame.rows cell.row < block_height grid.frame cell
      → Tiles (track_at grid.frame.columns cell.col) (block_parts grid cell y) (track_at grid.frame.columns cell.col + block_width grid.frame cell)
  Tiles-block y fits inside =
      let width = block_width grid.frame cell in
      let height = block_height grid.frame cell in
      let k = y - track_at grid.frame.rows cell.row in
      let lines = block grid cell width height in
      let within : k < length lines = omega (arith, inside, block-high grid cell width height) in
      let wide : widths_of (get_or lines k []) ≡ width = All-inside (IsWide grid cell width) lines k [] within (block-wide grid cell width fits height) in
      Tiles-laid (track_at grid.frame.columns cell.col) (get_or lines k []) (track_at grid.frame.columns cell.col + width) (omega (arith, wide))

-- ---- a line of columns

flat_map-more : (part : ℕ → List PlacedPart) (n : ℕ) → flat_map part (range_with_len 0 (suc n)) ≡ flat_map part (range_with_len 0 n) ++ part n
flat_map-more part n =
    let same : 0 + n ≡ n = omega arith in
    ap (λ k. flat_map part (range_with_len 0 k)) (sym (add-one n))
    ∙ ap (flat_map part) (range_with_len-more 0 n ∙ ap (λ k. range_with_len 0 n ++ k ∷ []) same)
    ∙ flat_map-append part (range_with_len 0 n) (n ∷ [])
    ∙ ap (λ pieces. flat_map part (range_with_len 0 n) ++ pieces) (append-nil (part n))

-- columns by the cells that are seen in them: a cell that is shown goes from its first column to its last, and where
-- none is shown the boundary is; `Goes a pieces b` says how pieces go from a to b
module _ (Goes : ℕ → List PlacedPart → ℕ → Type 0) (nowhere : (a b : ℕ) → a ≡ b → Goes a [] b)
    (both : (a b c : ℕ) (xs ys : List PlacedPart) → Goes a xs b → Goes b ys c → Goes a (xs ++ ys) c) (count : ℕ) (boundary track : ℕ → ℕ)
    (cell : ℕ → Position) (span : Position → ℕ) (is_shown : Position → Bool) (edge along : ℕ → List PlacedPart) (block : Position → List PlacedPart) where
  abbrev pub part : ℕ → List PlacedPart
  part j = cond (is_shown (cell j)) (cond ((cell j).col == j) (edge j ++ block (cell j)) []) (edge j ++ along j)

  pub record IsLine : Type 0 where
    pub begins : (j : ℕ) → j < count → (cell j).col ≤ j
    pub ends : (j : ℕ) → j < count → j < (cell j).col + span (cell j)
    pub inside : (j : ℕ) → j < count → is_shown (cell j) ≡ true → (cell j).col + span (cell j) ≤ count
    pub goes_on : (j k : ℕ) → j < count → k < count → is_shown (cell j) ≡ true → (cell j).col ≤ k → k < (cell j).col + span (cell j) → cell k ≡ cell j
    pub edges : (j : ℕ) → Goes (boundary j) (edge j) (track j)
    pub alongs : (j : ℕ) → j < count → is_shown (cell j) ≡ false → Goes (track j) (along j) (boundary (j + 1))
    pub blocks : (j : ℕ) → j < count → is_shown (cell j) ≡ true → (cell j).col ≡ j
        → Goes (track j) (block (cell j)) (boundary ((cell j).col + span (cell j)))

  -- before which boundary the pieces of the first columns end
  abbrev end_of : ℕ → ℕ
  end_of j = cond (is_shown (cell j)) ((cell j).col + span (cell j)) (j + 1)

  abbrev end : ℕ → ℕ
  end zero = 0
  end (suc j) = end_of j

  module _ (line : IsLine) where
    -- where a column is not that of an open cell, the columns before it end there
    end-here : (n : ℕ) → n < count → (is_shown (cell n) ≡ true → (cell n).col ≡ n) → end n ≡ n
    end-here zero inside own = refl
    end-here (suc j) inside own =
        let before : j < count = omega (arith, inside) in
        elim (is_shown (cell j)) as (λ b. is_shown (cell j) ≡ b → cond b ((cell j).col + span (cell j)) (j + 1) ≡ suc j) [
          | true ↦ λ shown. elim (cases_lt (suc j) ((cell j).col + span (cell j))) [
            | inl longer ↦
                let same : cell (suc j) ≡ cell j = line.goes_on j (suc j) before inside shown (omega (arith, line.begins j before)) longer in
                let open_here : is_shown (cell (suc j)) ≡ true = ap is_shown same ∙ shown in
                let first : (cell j).col ≡ suc j = ap (λ (p : Position). p.col) (sym same) ∙ own open_here in
                absurd (omega (arith, first, line.begins j before))
            | inr no_longer ↦ omega (arith, no_longer, line.ends j before)
          ]
          | false ↦ λ hidden. omega arith
        ] refl

    -- within an open cell they end where it ends
    end-open : (n : ℕ) → n < count → is_shown (cell n) ≡ true → ((cell n).col ≡ n → ⊥) → end n ≡ end_of n
    end-open zero inside shown other = absurd (other (omega (arith, line.begins zero inside)))
    end-open (suc j) inside shown other =
        let before : j < count = omega (arith, inside) in
        let first : (cell (suc j)).col ≤ j = earlier (cell (suc j)).col (line.begins (suc j) inside) other in
        let same : cell j ≡ cell (suc j) = line.goes_on (suc j) j inside before shown first (omega (arith, line.ends (suc j) inside)) in
        ap (λ b. cond b ((cell j).col + span (cell j)) (j + 1)) (ap is_shown same ∙ shown)
        ∙ ap (λ (p : Position). p.col + span p) same
        ∙ ap (λ b. cond b ((cell (suc j)).col + span (cell (suc j))) (suc j + 1)) (sym shown)
      where
        earlier : (c : ℕ) → c ≤ suc j → (c ≡ suc j → ⊥) → c ≤ j
        earlier c within differs = elim (cases_lt c (suc j)) [
          | inl lt ↦ omega (arith, lt)
          | inr ge ↦ absurd (differs (omega (arith, ge, within)))
        ]

    -- the part of a column goes on from where those before it end
    Goes-part : (n : ℕ) → n < count → Goes (boundary (end n)) (part n) (boundary (end_of n))
    Goes-part n inside =
        elim (is_shown (cell n)) as (λ b. is_shown (cell n) ≡ b →
        Goes (boundary (end n)) (cond b (cond ((cell n).col == n) (edge n ++ block (cell n)) []) (edge n ++ along n)) (boundary (cond b ((cell n).col + span (cell n)) (n + 1)))) [
          | true ↦ λ shown. elim ((cell n).col == n) as (λ own. ((cell n).col == n) ≡ own →
              Goes (boundary (end n)) (cond own (edge n ++ block (cell n)) []) (boundary ((cell n).col + span (cell n)))) [
                | true ↦ λ own.
                    let first : (cell n).col ≡ n = grind (arith, nat_tests, own) in
                    let here : boundary n ≡ boundary (end n) = ap (boundary) (sym (end-here n inside (λ _. first))) in
                    subst (λ a. Goes a (edge n ++ block (cell n)) (boundary ((cell n).col + span (cell n)))) here
                    (both (boundary n) (track n) (boundary ((cell n).col + span (cell n))) (edge n) (block (cell n)) (line.edges n) (line.blocks n inside shown first))
                | false ↦ λ own.
                    let other : (cell n).col ≡ n → ⊥ = λ same. absurd (grind (arith, nat_tests, own, same)) in
                    nowhere (boundary (end n)) (boundary ((cell n).col + span (cell n))) (ap boundary (end-open n inside shown other ∙ ap (λ b. cond b ((cell n).col + span (cell n)) (n + 1)) shown))
              ] refl
          | false ↦ λ hidden.
              let clash : is_shown (cell n) ≡ true → (cell n).col ≡ n = λ shown. let no : true ≡ false = sym shown ∙ hidden in absurd (cc no) in
              let here : boundary n ≡ boundary (end n) = ap (boundary) (sym (end-here n inside clash)) in
              subst (λ a. Goes a (edge n ++ along n) (boundary (n + 1))) here
              (both (boundary n) (track n) (boundary (n + 1)) (edge n) (along n) (line.edges n) (line.alongs n inside hidden))
        ] refl

    Goes-parts : (n : ℕ) → n ≤ count → Goes (boundary 0) (flat_map part (range_with_len 0 n)) (boundary (end n))
    Goes-parts zero within = nowhere (boundary 0) (boundary 0) refl
    Goes-parts (suc n) within =
        let inside : n < count = omega (arith, within) in
        subst (λ (pieces : List PlacedPart). Goes (boundary 0) pieces (boundary (end_of n))) (sym (flat_map-more part n))
        (both (boundary 0) (boundary (end n)) (boundary (end_of n)) (flat_map part (range_with_len 0 n)) (part n) (Goes-parts n (omega (arith, within))) (Goes-part n inside))

    -- all columns end at the last boundary
    end-all : (n : ℕ) → n ≡ count → end n ≡ count
    end-all zero all = all
    end-all (suc j) all =
        let inside : j < count = omega (arith, all) in
        elim (is_shown (cell j)) as (λ b. is_shown (cell j) ≡ b → cond b ((cell j).col + span (cell j)) (j + 1) ≡ count) [
          | true ↦ λ shown. omega (arith, line.inside j inside shown, line.ends j inside, all)
          | false ↦ λ hidden. omega (arith, all)
        ] refl

    pub Goes-columns : Goes (boundary 0) (flat_map part (range_with_len 0 count)) (boundary count)
    Goes-columns =
        subst (λ n. Goes (boundary 0) (flat_map part (range_with_len 0 count)) (boundary n)) (end-all count refl)
        (Goes-parts count (omega arith))

    -- the pieces before the block of a cell end where it begins
    pub Goes-before : (n : ℕ) → n < count → ((cell n).col ≡ n) → Goes (boundary 0) (flat_map part (range_with_len 0 n) ++ edge n) (track n)
    Goes-before n inside first =
        both (boundary 0) (boundary n) (track n) (flat_map part (range_with_len 0 n)) (edge n)
        (subst (λ m. Goes (boundary 0) (flat_map part (range_with_len 0 n)) (boundary m)) (end-here n inside (λ _. first)) (Goes-parts n (omega (arith, inside))))
        (line.edges n)

    -- the columns are those pieces, the block, and others
    pub columns-parted : (n : ℕ) → n < count → is_shown (cell n) ≡ true → (cell n).col ≡ n
        → flat_map part (range_with_len 0 count) ≡ (flat_map part (range_with_len 0 n) ++ edge n) ++ (block (cell n) ++ flat_map part (range_with_len (n + 1) (count - (n + 1))))
    columns-parted n inside shown first =
        let before = flat_map part (range_with_len 0 n) in
        let behind = flat_map part (range_with_len (n + 1) (count - (n + 1))) in
        let own : ((cell n).col == n) ≡ true = eq-eqb (cell n).col n first in
        let here : part n ≡ edge n ++ block (cell n) =
        ap (λ b. cond b (cond ((cell n).col == n) (edge n ++ block (cell n)) []) (edge n ++ along n)) shown ∙ ap (λ b. cond b (edge n ++ block (cell n)) []) own in
        ap (flat_map part) (range-at n count inside)
        ∙ flat_map-append part (range_with_len 0 n) (n ∷ range_with_len (n + 1) (count - (n + 1)))
        ∙ ap (λ pieces. before ++ (pieces ++ behind)) here
        ∙ ap (λ pieces. before ++ pieces) (append_assoc (edge n) (block (cell n)) behind)
        ∙ sym (append_assoc before (edge n) (block (cell n) ++ behind))

-- ---- the lines of a picture

module _ (grid : Grid) (spans : List (Position × Extent)) (good : HasGoodSpans grid spans) where
  abbrev columns : Tracks
  columns = grid.frame.columns

  abbrev rows : Tracks
  rows = grid.frame.rows

  abbrev span_of : Position → ℕ
  span_of cell = (grid.frame.look.extent cell).columns

  -- a rectangle ends at the boundary after its last column, or row
  pub block-ends : (cell : Position) → 0 < span_of cell → cell.col + span_of cell ≤ column_count grid.frame
      → track_at columns cell.col + block_width grid.frame cell ≡ boundary_at columns (cell.col + span_of cell)
  block-ends cell some within = ends (span_of cell) some within
    where
      ends : (n : ℕ) → 0 < n → cell.col + n ≤ column_count grid.frame → track_at columns cell.col + stretch columns cell.col n ≡ boundary_at columns (cell.col + n)
      ends zero some within = absurd (omega (arith, some))
      ends (suc n) some within =
          let same : suc n ≡ n + 1 = omega arith in
          subst (λ m. track_at columns cell.col + stretch columns cell.col m ≡ boundary_at columns (cell.col + m)) (sym same)
          (sym (boundary-behind columns cell.col n (omega (arith, within))))

  pub block-ends_below : (cell : Position) → 0 < (grid.frame.look.extent cell).rows → cell.row + (grid.frame.look.extent cell).rows ≤ row_count grid.frame
      → track_at rows cell.row + block_height grid.frame cell ≡ boundary_at rows (cell.row + (grid.frame.look.extent cell).rows)
  block-ends_below cell some within = ends (grid.frame.look.extent cell).rows some within
    where
      ends : (n : ℕ) → 0 < n → cell.row + n ≤ row_count grid.frame → track_at rows cell.row + stretch rows cell.row n ≡ boundary_at rows (cell.row + n)
      ends zero some within = absurd (omega (arith, some))
      ends (suc n) some within =
          let same : suc n ≡ n + 1 = omega arith in
          subst (λ m. track_at rows cell.row + stretch rows cell.row m ≡ boundary_at rows (cell.row + m)) (sym same)
          (sym (boundary-behind rows cell.row n (omega (arith, within))))

  pub edge-tiles : (content : ℕ → Content) (glyph : Option ℕ) (color : Option Color) (j : ℕ) → Tiles (boundary_at columns j) (edge grid content glyph color j) (track_at columns j)
  edge-tiles content glyph color j =
      elim (columns.has_boundary j) as (λ b. Tiles (boundary_at columns j) (cond b (laid (boundary_at columns j) (record { width = 1; content = content (unwrap_or glyph blank); color = color } ∷ [])) []) (boundary_at columns j + thickness b)) [
        | true ↦ (refl, refl)
        | false ↦ omega arith
      ]

  pub along-tiles : (i j : ℕ) → j < column_count grid.frame → Tiles (track_at columns j) (along grid i j) (boundary_at columns (j + 1))
  along-tiles i j inside = (refl, sym (boundary-next columns j inside))

  -- the line is one of the rectangle
  pub within : (i j y : ℕ) → i < row_count grid.frame → j < column_count grid.frame → y < boundary_at rows (i + 1) → boundary_at rows i ≤ y
      → (track_at rows (seen grid i j).row ≤ y) → y - track_at rows (seen grid i j).row < block_height grid.frame (seen grid i j)
  within i j y row column before from below =
      let cell = seen grid i j in
      let held = seen-holds grid spans good i j in
      let fits = seen-inside grid spans good i j row column in
      let n = (grid.frame.look.extent cell).rows in
      let some : 0 < n = omega (arith, held.below, held.above) in
      let ends : track_at rows cell.row + block_height grid.frame cell ≡ boundary_at rows (cell.row + n) = block-ends_below cell some fits.rows_fit in
      let last : i + 1 + (cell.row + n - (i + 1)) ≡ cell.row + n = omega (arith, held.above) in
      let order : boundary_at rows (i + 1) ≤ boundary_at rows (i + 1 + (cell.row + n - (i + 1))) = boundary-order rows (i + 1) (cell.row + n - (i + 1)) (omega (arith, last, fits.rows_fit)) in
      omega (arith, before, below, ends, order, ap (boundary_at rows) last)

  -- a track comes before the boundaries after it
  pub track-before : (r i : ℕ) → r < i → i ≤ row_count grid.frame → track_at rows r ≤ boundary_at rows i
  track-before r i before last =
      let same : r + 1 + (i - (r + 1)) ≡ i = omega (arith, before) in
      omega (arith, boundary-next rows r (omega (arith, before, last)), boundary-order rows (r + 1) (i - (r + 1)) (omega (arith, same, last)), ap (boundary_at rows) same)

  pub track-before_line : (i y r : ℕ) → r ≤ i → i < row_count grid.frame → track_at rows i ≤ y → track_at rows r ≤ y
  track-before_line i y r before row from = elim (cases_lt r i) [
    | inl lt ↦ omega (arith, track-before r i lt (omega (arith, row)), from)
    | inr ge ↦ let same : r ≡ i = omega (arith, ge, before) in omega (arith, ap (track_at rows) same, from)
  ]

  -- boundaries are in their order
  pub order : (r s : ℕ) → r ≤ s → s ≤ row_count grid.frame → boundary_at rows r ≤ boundary_at rows s
  order r s before last = let same : r + (s - r) ≡ s = omega (arith, before) in omega (arith, boundary-order rows r (s - r) (omega (arith, same, last)), ap (boundary_at rows) same)

  -- what the lines of a rectangle show: its rows, and the boundaries between them
  abbrev pub InRectangle : Position → LineKind → Type 0
  InRectangle cell (Row r) = (cell.row ≤ r) × (r < cell.row + (grid.frame.look.extent cell).rows)
  InRectangle cell (Boundary r) = (cell.row < r) × (r < cell.row + (grid.frame.look.extent cell).rows)
  InRectangle cell InMargin = ⊥

  pub located : (i j y : ℕ) → i < row_count grid.frame → j < column_count grid.frame → IsLineOf grid (seen grid i j) y → (p : LineKind) → ShowsKind rows y p → InRectangle (seen grid i j) p
  located i j y row column in_line (Row r) at_row =
      let cell = seen grid i j in
      let held = seen-holds grid spans good i j in
      let fits = seen-inside grid spans good i j row column in
      let in_table = seen-in_table grid spans good i j row column in
      let ends_below = block-ends_below cell (omega (arith, held.below, held.above)) fits.rows_fit in (
        (elim (cases_lt r cell.row) [
          | inl lt ↦ absurd (omega (arith, order (r + 1) cell.row (omega (arith, lt)) (omega (arith, in_table.0)), boundary-next rows r at_row.0, at_row.2, in_line.0))
          | inr ge ↦ ge
        ]),
        (elim (cases_lt r (cell.row + (grid.frame.look.extent cell).rows)) [
          | inl lt ↦ lt
          | inr ge ↦ absurd (omega (arith, order (cell.row + (grid.frame.look.extent cell).rows) r ge (omega (arith, at_row.0)), at_row.1, in_line.1, ends_below))
        ]),
      )
  located i j y row column in_line (Boundary r) at_boundary =
      let cell = seen grid i j in
      let held = seen-holds grid spans good i j in
      let fits = seen-inside grid spans good i j row column in
      let in_table = seen-in_table grid spans good i j row column in
      let ends_below = block-ends_below cell (omega (arith, held.below, held.above)) fits.rows_fit in
      let one : track_at rows r ≡ boundary_at rows r + 1 = ap (λ b. boundary_at rows r + thickness b) at_boundary.1 in
      let before : r < cell.row + (grid.frame.look.extent cell).rows = (elim (cases_lt r (cell.row + (grid.frame.look.extent cell).rows)) [
        | inl lt ↦ lt
        | inr ge ↦ absurd (omega (arith, order (cell.row + (grid.frame.look.extent cell).rows) r ge at_boundary.0, at_boundary.2, in_line.1, ends_below))
      ]) in (
        (elim (cases_lt cell.row r) [
          | inl lt ↦ lt
          | inr ge ↦ absurd (first-rows cell in_table.0 in_line.0 r one (omega (arith, before, fits.rows_fit)) ge at_boundary.2)
        ]),
        before,
      )
    where
      -- no line of the rectangle is that of the boundary above it, or of one before
      first-rows : (cell : Position) → cell.row < row_count grid.frame → track_at rows cell.row ≤ y → (r : ℕ) → track_at rows r ≡ boundary_at rows r + 1 → r < row_count grid.frame → r ≤ cell.row → y ≡ boundary_at rows r → ⊥
      first-rows cell in_rows from r one inside before here = elim (cases_lt r cell.row) [
        | inl lt ↦ absurd (omega (arith, order (r + 1) cell.row (omega (arith, lt)) (omega (arith, in_rows)), boundary-next rows r inside, one, here, from))
        | inr ge ↦
            let same : r ≡ cell.row = omega (arith, ge, before) in
            omega (arith, ap (track_at rows) same, one, here, from)
      ]
  located i j y row column in_line InMargin in_margin =
      let cell = seen grid i j in
      let held = seen-holds grid spans good i j in
      let fits = seen-inside grid spans good i j row column in
      let in_table = seen-in_table grid spans good i j row column in
      let ends_below = block-ends_below cell (omega (arith, held.below, held.above)) fits.rows_fit in
      absurd (elim in_margin [
        | inl above ↦ omega (arith, above, in_line.0, order 0 cell.row (omega arith) (omega (arith, in_table.0)), boundary-first rows)
        | inr below ↦ omega (arith, below, in_line.1, ends_below, order (cell.row + (grid.frame.look.extent cell).rows) (row_count grid.frame) fits.rows_fit (omega arith))
      ])

  module _ (room : HasRoom grid) where
    -- the block of a cell that is seen at a place of row i, from its first column on, in a line of its rectangle
    cell-tiles : (i j y : ℕ) → i < row_count grid.frame → j < column_count grid.frame → (seen grid i j).col ≡ j
        → y - track_at rows (seen grid i j).row < block_height grid.frame (seen grid i j)
        → Tiles (track_at columns j) (block_parts grid (seen grid i j) y) (boundary_at columns ((seen grid i j).col + span_of (seen grid i j)))
    cell-tiles i j y row column first inside =
        let cell = seen grid i j in
        let held = seen-holds grid spans good i j in
        let fits = seen-inside grid spans good i j row column in
        let some : 0 < span_of cell = omega (arith, held.right, held.left) in
        subst (λ n. Tiles (track_at columns n) (block_parts grid cell y) (boundary_at columns (cell.col + span_of cell))) first
        (subst (λ b. Tiles (track_at columns cell.col) (block_parts grid cell y) b) (block-ends cell some fits.columns_fit)
        (Tiles-block grid cell y (room.room i j row column) inside))

    -- ---- rows

    row-line : (i y : ℕ) → i < row_count grid.frame → track_at rows i ≤ y → y < track_at rows i + slice_index rows.sizes i
        → IsLine Tiles (λ a b same. same) Tiles-append (column_count grid.frame) (boundary_at columns) (track_at columns) (seen grid i) span_of (λ _. true) (upright grid) (along grid i) (λ cell. block_parts grid cell y)
    row-line i y row from before = record {
      begins = λ j column. (seen-holds grid spans good i j).right;
      ends = λ j column. (seen-holds grid spans good i j).left;
      inside = λ j column shown. (seen-inside grid spans good i j row column).columns_fit;
      goes_on = λ j k column other shown from below.
          let held = seen-holds grid spans good i j in
          seen-goes_on grid spans good i j i k row column row other (record { below = held.below; above = held.above; right = from; left = below });
      edges = λ j. edge-tiles Fill (in_row grid.frame.look.borders (boundary_kind j (column_count grid.frame))) (in_row grid.frame.look.borders_color (boundary_kind j (column_count grid.frame))) j;
      alongs = λ j column hidden. along-tiles i j column;
      blocks = λ j column shown first.
          let held = seen-holds grid spans good i j in
          cell-tiles i j y row column first
          (within i j y row column (omega (arith, before, boundary-next rows i row)) (omega (arith, from)) (track-before_line i y (seen grid i j).row held.below row from));
    }

    -- ---- boundaries of rows

    -- a cell that is seen at row boundary i, whose glyphs it hides
    abbrev is_above : ℕ → Position → Bool
    is_above i cell = nat_lt cell.row i

    boundary-line : (i : ℕ) → i ≤ row_count grid.frame → rows.has_boundary i ≡ true
        → IsLine Tiles (λ a b same. same) Tiles-append (column_count grid.frame) (boundary_at columns) (track_at columns) (seen grid i) span_of (is_above i) (crossing_at grid i) (along grid i) (λ cell. block_parts grid cell (boundary_at rows i))
    boundary-line i last is_there = record {
      begins = λ j column. (seen-holds grid spans good i j).right;
      ends = λ j column. (seen-holds grid spans good i j).left;
      inside = λ j column shown.
          let above : (seen grid i j).row < i = grind (arith, nat_tests, shown) in
          (seen-inside grid spans good i j (seen-above grid spans good i j last column above) column).columns_fit;
      goes_on = λ j k column other shown from below.
          let above : (seen grid i j).row < i = grind (arith, nat_tests, shown) in
          let row = seen-above grid spans good i j last column above in
          let held = seen-holds grid spans good i j in
          seen-goes_on grid spans good i j i k row column row other (record { below = held.below; above = held.above; right = from; left = below });
      edges = λ j. edge-tiles Glyph (crossing grid.frame.look.borders (boundary_kind i (row_count grid.frame)) (boundary_kind j (column_count grid.frame)))
          (crossing grid.frame.look.borders_color (boundary_kind i (row_count grid.frame)) (boundary_kind j (column_count grid.frame))) j;
      alongs = λ j column hidden. along-tiles i j column;
      blocks = λ j column shown first.
          let above : (seen grid i j).row < i = grind (arith, nat_tests, shown) in
          let row = seen-above grid spans good i j last column above in
          let one : track_at rows i ≡ boundary_at rows i + 1 = ap (λ b. boundary_at rows i + thickness b) is_there in
          cell-tiles i j (boundary_at rows i) row column first
          (within i j (boundary_at rows i) row column (omega (arith, boundary-next rows i row, one)) (omega arith) (track-before (seen grid i j).row i above last));
    }

    -- ---- all lines

    module _ (margins : BeginsBehindMargin grid.frame) where
      right-margin : Tiles (track_at columns (column_count grid.frame)) (laid (track_at columns (column_count grid.frame)) (fill grid.frame.look.margin.right.size grid.frame.look.margin.right.fill grid.frame.look.margin_color.right ∷ [])) (full_line_width grid.frame)
      right-margin = (refl, refl)

      Tiles-across : (part : ℕ → List PlacedPart) (last : List PlacedPart) → Tiles (boundary_at columns 0) (flat_map part (range_with_len 0 (column_count grid.frame))) (boundary_at columns (column_count grid.frame))
          → Tiles (boundary_at columns (column_count grid.frame)) last (track_at columns (column_count grid.frame)) → Tiles 0 (across grid part last) (full_line_width grid.frame)
      Tiles-across part last inner end =
          let count = column_count grid.frame in
          let right = laid (track_at columns count) (fill grid.frame.look.margin.right.size grid.frame.look.margin.right.fill grid.frame.look.margin_color.right ∷ []) in
          let start : boundary_at columns 0 ≡ 0 + grid.frame.look.margin.left.size = omega (arith, boundary-first columns, margins) in (
            refl,
            subst (λ a. Tiles a (flat_map part (range_with_len 0 count) ++ (last ++ right)) (full_line_width grid.frame)) start
                (Tiles-append (boundary_at columns 0) (boundary_at columns count) (full_line_width grid.frame) (flat_map part (range_with_len 0 count)) (last ++ right) inner
                (Tiles-append (boundary_at columns count) (track_at columns count) (full_line_width grid.frame) last right end right-margin)),
          )

      Tiles-kind : (y : ℕ) (p : LineKind) → ShowsKind rows y p → Tiles 0 (placed_parts_at grid p y) (full_line_width grid.frame)
      Tiles-kind y (Row i) is =
          let count = column_count grid.frame in
          let kind = boundary_kind count count in
          Tiles-across (row_part grid i y) (upright grid count)
          (Goes-columns Tiles (λ a b same. same) Tiles-append (column_count grid.frame) (boundary_at columns) (track_at columns) (seen grid i) span_of (λ _. true) (upright grid) (along grid i) (λ cell. block_parts grid cell y) (row-line i y is.0 is.1 is.2))
          (edge-tiles Fill (in_row grid.frame.look.borders kind) (in_row grid.frame.look.borders_color kind) count)
      Tiles-kind y (Boundary i) is =
          let count = column_count grid.frame in
          let row = boundary_kind i (row_count grid.frame) in
          let kind = boundary_kind count count in
          subst (λ z. Tiles 0 (across grid (boundary_part grid i z) (crossing_at grid i count)) (full_line_width grid.frame)) (sym is.2)
          (Tiles-across (boundary_part grid i (boundary_at rows i)) (crossing_at grid i count)
          (Goes-columns Tiles (λ a b same. same) Tiles-append (column_count grid.frame) (boundary_at columns) (track_at columns) (seen grid i) span_of (is_above i) (crossing_at grid i) (along grid i) (λ cell. block_parts grid cell (boundary_at rows i)) (boundary-line i is.0 is.1))
          (edge-tiles Glyph (crossing grid.frame.look.borders row kind) (crossing grid.frame.look.borders_color row kind) count))
      Tiles-kind y InMargin is =
          elim (nat_lt y rows.margin) as (λ b. Tiles 0 (cond b (margin_line grid grid.frame.look.margin.top grid.frame.look.margin_color.top) (margin_line grid grid.frame.look.margin.bottom grid.frame.look.margin_color.bottom)) (full_line_width grid.frame)) [
            | true ↦ (refl, omega arith)
            | false ↦ (refl, omega arith)
          ]

      pub Tiles-picture : (y : ℕ) → Tiles 0 (picture_line grid y) (full_line_width grid.frame)
      Tiles-picture y = Tiles-kind y (line_kind rows y) (kind-shown rows y)

      -- ---- rectangles

      Tiles-behind : (a b c : ℕ) (xs ys : List PlacedPart) → Tiles a xs b → Tiles a (xs ++ ys) c → Tiles b ys c
      Tiles-behind a b c [] ys first both = subst (λ n. Tiles n ys c) first both
      Tiles-behind a b c (x ∷ xs) ys first both = Tiles-behind (a + x.part.width) b c xs ys first.1 both.1

      -- a line whose columns are such pieces shows the block
      shows-block : (cell : Position) (y : ℕ) (part : ℕ → List PlacedPart) (last before behind : List PlacedPart) → picture_line grid y ≡ across grid part last
          → flat_map part (range_with_len 0 (column_count grid.frame)) ≡ before ++ (block_parts grid cell y ++ behind)
          → Tiles (boundary_at columns 0) before (track_at columns cell.col)
          → Tiles (track_at columns cell.col) (block_parts grid cell y) (track_at columns cell.col + block_width grid.frame cell)
          → ShowsBlock grid cell y
      shows-block cell y part last before behind is inner left inside =
          let look = grid.frame.look in
          let margin : PlacedPart = record { left = 0; part = fill look.margin.left.size look.margin.left.fill look.margin_color.left } in
          let right = laid (track_at columns (column_count grid.frame)) (fill look.margin.right.size look.margin.right.fill look.margin_color.right ∷ []) in
          let start : boundary_at columns 0 ≡ 0 + look.margin.left.size = omega (arith, boundary-first columns, margins) in
          let block = block_parts grid cell y in
          let parted : picture_line grid y ≡ (margin ∷ before) ++ (block ++ (behind ++ (last ++ right))) =
          is ∙ ap (λ pieces. margin ∷ (pieces ++ (last ++ right))) inner
          ∙ ap (λ pieces. margin ∷ pieces) (append_assoc before (block ++ behind) (last ++ right) ∙ ap (λ pieces. before ++ pieces) (append_assoc block behind (last ++ right))) in
          let up_to : Tiles 0 (margin ∷ before) (track_at columns cell.col) = (refl, subst (λ a. Tiles a before (track_at columns cell.col)) start left) in
          let whole : Tiles 0 ((margin ∷ before) ++ (block ++ (behind ++ (last ++ right)))) (full_line_width grid.frame) = subst (λ (pieces : List PlacedPart). Tiles 0 pieces (full_line_width grid.frame)) parted (Tiles-picture y) in
          record {
            before = margin ∷ before;
            behind = behind ++ (last ++ right);
            parted = parted;
            left = up_to;
            inside = inside;
            right = Tiles-behind (track_at columns cell.col) (track_at columns cell.col + block_width grid.frame cell) (full_line_width grid.frame) block (behind ++ (last ++ right)) inside
                (Tiles-behind 0 (track_at columns cell.col) (full_line_width grid.frame) (margin ∷ before) (block ++ (behind ++ (last ++ right))) up_to whole);
          }

      module _ (i j y : ℕ) (row : i < row_count grid.frame) (column : j < column_count grid.frame) (in_line : IsLineOf grid (seen grid i j) y) where
        abbrev shown_cell : Position
        shown_cell = seen grid i j

        abbrev height_of : ℕ
        height_of = (grid.frame.look.extent shown_cell).rows

        held : Holds shown_cell (grid.frame.look.extent shown_cell) (at i j)
        held = seen-holds grid spans good i j

        in_table : IsInTable (row_count grid.frame) (column_count grid.frame) shown_cell
        in_table = seen-in_table grid spans good i j row column

        fits : IsInside shown_cell (grid.frame.look.extent shown_cell) (row_count grid.frame) (column_count grid.frame)
        fits = seen-inside grid spans good i j row column

        -- it is seen in each of its rows, from its first column on
        seen-there : (r : ℕ) → shown_cell.row ≤ r → r < shown_cell.row + height_of → seen grid r shown_cell.col ≡ shown_cell
        seen-there r from before =
            seen-goes_on grid spans good i j r shown_cell.col row column (omega (arith, before, fits.rows_fit)) in_table.1
            (record { below = from; above = before; right = omega arith; left = omega (arith, held.right, held.left) })

        block-there : (r : ℕ) → seen grid r shown_cell.col ≡ shown_cell → r < row_count grid.frame
            → Tiles (track_at columns shown_cell.col) (block_parts grid shown_cell y) (track_at columns shown_cell.col + block_width grid.frame shown_cell)
        block-there r same inside = Tiles-block grid shown_cell y (room.room i j row column) (omega (arith, in_line.0, in_line.1))

        shown-at : (p : LineKind) → line_kind rows y ≡ p → ShowsKind rows y p → ShowsBlock grid shown_cell y
        shown-at (Row r) is at_row =
            let found = located i j y row column in_line (Row r) at_row in
            let from = found.0 in
            let before = found.1 in
            let same = seen-there r from before in
            let n = shown_cell.col in
            let count = column_count grid.frame in
            let own : (seen grid r n).col ≡ n = ap (λ (p : Position). p.col) same in
            let line = row-line r y at_row.0 at_row.1 at_row.2 in
            let behind = flat_map (row_part grid r y) (range_with_len (n + 1) (count - (n + 1))) in
            shows-block shown_cell y (row_part grid r y) (upright grid count) (flat_map (row_part grid r y) (range_with_len 0 n) ++ upright grid n) behind
            (ap (λ p. placed_parts_at grid p y) is)
            (columns-parted Tiles (λ a b same. same) Tiles-append (column_count grid.frame) (boundary_at columns) (track_at columns) (seen grid r) span_of (λ _. true) (upright grid) (along grid r) (λ cell. block_parts grid cell y) line n in_table.1 refl own
            ∙ ap (λ (cell : Position). (flat_map (row_part grid r y) (range_with_len 0 n) ++ upright grid n) ++ (block_parts grid cell y ++ behind)) same)
            (Goes-before Tiles (λ a b same. same) Tiles-append (column_count grid.frame) (boundary_at columns) (track_at columns) (seen grid r) span_of (λ _. true) (upright grid) (along grid r) (λ cell. block_parts grid cell y) line n in_table.1 own)
            (block-there r same at_row.0)
        shown-at (Boundary r) is at_boundary =
            let found = located i j y row column in_line (Boundary r) at_boundary in
            let from = found.0 in
            let before = found.1 in
            let inside : r < row_count grid.frame = omega (arith, before, fits.rows_fit) in
            let same = seen-there r (omega (arith, from)) before in
            let n = shown_cell.col in
            let count = column_count grid.frame in
            let own : (seen grid r n).col ≡ n = ap (λ (p : Position). p.col) same in
            let shown : nat_lt (seen grid r n).row r ≡ true = ap (λ (p : Position). nat_lt p.row r) same ∙ is_less shown_cell.row r from in
            let line = boundary-line r at_boundary.0 at_boundary.1 in
            let part = boundary_part grid r (boundary_at rows r) in
            let behind = flat_map part (range_with_len (n + 1) (count - (n + 1))) in
            shows-block shown_cell y part (crossing_at grid r count) (flat_map part (range_with_len 0 n) ++ crossing_at grid r n) behind
            (ap (λ p. placed_parts_at grid p y) is ∙ ap (λ z. across grid (boundary_part grid r z) (crossing_at grid r count)) at_boundary.2)
            (columns-parted Tiles (λ a b same. same) Tiles-append (column_count grid.frame) (boundary_at columns) (track_at columns) (seen grid r) span_of (is_above r) (crossing_at grid r) (along grid r) (λ cell. block_parts grid cell (boundary_at rows r)) line n in_table.1 shown own
            ∙ ap (λ (cell : Position). (flat_map part (range_with_len 0 n) ++ crossing_at grid r n) ++ (block_parts grid cell (boundary_at rows r) ++ behind)) same
            ∙ ap (λ z. (flat_map part (range_with_len 0 n) ++ crossing_at grid r n) ++ (block_parts grid shown_cell z ++ behind)) (sym at_boundary.2))
            (Goes-before Tiles (λ a b same. same) Tiles-append (column_count grid.frame) (boundary_at columns) (track_at columns) (seen grid r) span_of (is_above r) (crossing_at grid r) (along grid r) (λ cell. block_parts grid cell (boundary_at rows r)) line n in_table.1 own)
            (block-there r same inside)
          where
            is_less : (a b : ℕ) → a < b → nat_lt a b ≡ true
            is_less a b less = grind (arith, nat_tests, less)
        shown-at InMargin is in_margin = absurd (located i j y row column in_line InMargin in_margin)

        pub rectangle-shown : ShowsBlock grid shown_cell y
        rectangle-shown = shown-at (line_kind rows y) refl (kind-shown rows y)

-- ---- one line of a text

-- it fills its rectangle exactly where it fits there
pub text_line-exact : (grid : Grid) (cell : Position) (width k a : ℕ) →
    let padding = grid.frame.look.padding cell in
    (Tiles a (laid a (text_line grid cell width k)) (a + width) ↔ (padding.left.size + slice_index (grid.measures cell) k + padding.right.size ≤ width))
text_line-exact grid cell width k a =
    let look = grid.frame.look in
    let padding = look.padding cell in
    let measure = slice_index (grid.measures cell) k in
    let widest = greatest (grid.measures cell) in
    let room = width - padding.left.size - padding.right.size in
    let counted = cond (look.line_alignment cell) measure widest in
    let free_before = free_left (look.alignment_horizontal cell) (room - counted) in
    let among = among-greatest (grid.measures cell) k in
    let bound = free_left-within (look.alignment_horizontal cell) (room - counted) in (
      λ tiles. omega (arith, tiles.1.1.1.1.1),
      λ fits.
          let both : free_before + measure ≤ room = either-measured (look.line_alignment cell) measure widest room free_before among (omega (arith, fits)) bound in
          (refl, (refl, (refl, (refl, (refl, omega (arith, both, fits)))))),
    )
  where
    either-measured : (b : Bool) (m w room free_before : ℕ) → m ≤ w → m ≤ room → free_before ≤ room - (cond b m w) → free_before + m ≤ room
    either-measured true m w room free_before within fits bound = omega (arith, within, fits, bound)
    either-measured false m w room free_before within fits bound = omega (arith, within, fits, bound)
