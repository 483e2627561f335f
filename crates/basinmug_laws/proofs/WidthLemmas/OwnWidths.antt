-- How wide a framed table is, and each of its columns: a column is as wide as its widest cell and a padding of one column at each side of it.
use Rattle.std.proofs.Common.{◌≡◌, ◌==◌, ◌||◌, ◌≤◌, ◌<◌, ◌+◌, ◌-◌, inl, inr, ℕ, zero, suc, Bool, true, false, List, [], ◌∷◌, ◌++◌, length, map, replicate, sum, take, slice_index, unwrap_or, refl, ap, sym, ◌∙◌, arith, append-nil, if◌then◌else◌}
use Rattle.std.specs.List.{AllByRecursion, filter, range_with_len}
use Rattle.std.proofs.Math.Path.{fun_ext}
use Rattle.std.proofs.Math.Seq.{take-length}
use Rattle.std.proofs.lemmas.Bool.{cases_lt}
use Rattle.std.proofs.lemmas.Bool.Decides.{nat_tests}
use Rattle.std.proofs.lemmas.List.{length-map}
use Rattle.std.proofs.lemmas.List.FromFn.{get_or-map-range_with_len, length-map-range_with_len}
use Rattle.grid_config.specs.Looks.{Look}
use Rattle.grid_config_values.specs.Glyphs.{boundary_kind, has_column_boundary}
use Rattle.grid_config_values.specs.Order.{same_place}
use Rattle.grid_config_values.specs.Spans.Owners.{owner}
use Rattle.grid_config_values.specs.Spans.Spans.{extent_at, single}
use Rattle.grid_config_values.specs.declared.borders.Borders.{Borders as Glyphs}
use Rattle.grid_config_values.specs.declared.position.Position.{Position}
use Rattle.grid_config_values.specs.declared.sides.Indent.{Indent}
use Rattle.grid_config_values.specs.declared.sides.Sides.{Sides}
use Rattle.grid_config_values.specs.declared.spans.extent.Extent.{Extent}
use Rattle.grid_config_values.proofs.SpansLemmas.Owners.{owner_holds}
use Rattle.grid_records_estimate.specs.Estimates.{TrackNeeds, greatest}
use Rattle.grid_records_estimate.specs.Sizing.{position_at}
use Rattle.grid_records_measure.specs.TextLines.{text_width}
use Rattle.grid_records_traits.specs.Rows.{evened, evened_row, text_at}
use Rattle.papergrid_picture.specs.Frame.{column_count as columns_of_frame, frame_of, full_line_width, row_count, thickness}
use Rattle.tabled.specs.Printing.{drawn_frame, drawn_heights, drawn_sizes, drawn_widths}
use Rattle.tabled.specs.Tables.{new_look}
use Rattle.tabled.specs.Totals.{drawn_width}
use Rattle.tabled_size.specs.Dimension.Sizes.{given_size}
use Rattle.tabled_size.specs.Dimension.Stored.{Stored, none_stored, stored_sizes}
use Rattle.tabled_steps.specs.Sizes.{column_needs_by_look, natural_widths}
use Rattle.tabled_steps.specs.States.{State, column_count}
use Rattle.columns_table.proofs.Leasts.{single-sizes}
use Rattle.tables_laws.proofs.ShownLemmas.SomeCells.{no_spans, positive-none}
use Rattle.basinmug_laws.proofs.WidthLemmas.FramedTables.{IsFramed}

-- ---- rows

-- each of as many cells
abbrev pub AreEven : ℕ → List (List (List ℕ)) → Type 0
AreEven n rows = AllByRecursion (λ row. length row ≡ n) rows

pub count-even : (n : ℕ) (rows : List (List (List ℕ))) → AreEven n rows → 0 < length rows → column_count rows ≡ n
count-even n [] even some = absurd (omega (arith, some))
count-even n (row ∷ rows) even some = even.0

evened-row : (n : ℕ) (row : List (List ℕ)) → length row ≡ n → evened_row n row ≡ row
evened-row n row long =
    let kept : take n row ≡ row = ap (λ (m : ℕ). take m row) (sym long) ∙ take-length row in
    let none : n - length row ≡ 0 = omega (arith, long) in
    ap (λ (front : List (List ℕ)). front ++ replicate (n - length row) []) kept ∙ ap (λ (m : ℕ). row ++ replicate m []) none ∙ append-nil row

evened-same : (n : ℕ) (rows : List (List (List ℕ))) → AreEven n rows → evened n rows ≡ rows
evened-same n [] even = refl
evened-same n (row ∷ rows) even =
    ap (λ (first : List (List ℕ)). first ∷ evened n rows) (evened-row n row even.0) ∙ ap (λ (rest : List (List (List ℕ))). row ∷ rest) (evened-same n rows even.1)

-- ---- the greatest of numbers

greatest-most : (f : ℕ → ℕ) (a n most : ℕ) → ((k : ℕ) → a ≤ k → k < a + n → f k ≤ most) → greatest (map f (range_with_len a n)) ≤ most
greatest-most f a zero most all = omega arith
greatest-most f a (suc n) most all =
    omega (arith, all a (omega arith) (omega arith), greatest-most f (a + 1) n most (λ k low high. all k (omega (arith, low)) (omega (arith, high))))

greatest-holds : (f : ℕ → ℕ) (a n k : ℕ) → a ≤ k → k < a + n → f k ≤ greatest (map f (range_with_len a n))
greatest-holds f a zero k low high = absurd (omega (arith, low, high))
greatest-holds f a (suc n) k low high = elim (cases_lt a k) [
  | inl more ↦ omega (arith, greatest-holds f (a + 1) n k (omega (arith, more)) (omega (arith, high)))
  | inr less ↦ let same : k ≡ a = omega (arith, low, less) in omega (arith, ap f same)
]

-- ---- columns

-- what a cell needs, and the widest cell of a column
abbrev cell_width : List (List (List ℕ)) → ℕ → ℕ → ℕ
cell_width rows column row = text_width (text_at rows (position_at row column)) + 2

abbrev pub own_width : List (List (List ℕ)) → ℕ → ℕ
own_width rows column = greatest (map (cell_width rows column) (range_with_len 0 (length rows)))

pub own_width-most : (rows : List (List (List ℕ))) (column most : ℕ) → ((row : ℕ) → row < length rows → text_width (text_at rows (position_at row column)) + 2 ≤ most) → own_width rows column ≤ most
own_width-most rows column most all = greatest-most (cell_width rows column) 0 (length rows) most (λ row low high. all row (omega (arith, high)))

pub own_width-holds : (rows : List (List (List ℕ))) (column row : ℕ) → row < length rows → text_width (text_at rows (position_at row column)) + 2 ≤ own_width rows column
own_width-holds rows column row inside = greatest-holds (cell_width rows column) 0 (length rows) row (omega arith) (omega (arith, inside))

-- the widths of so many columns
abbrev pub own_widths : List (List (List ℕ)) → ℕ → List ℕ
own_widths rows n = map (own_width rows) (range_with_len 0 n)

-- ---- a look without spans, whose cells have a padding at each side

alone : (place : Position) → same_place (owner (λ _. single) place) place ≡ true
alone place =
    let held = owner_holds [] place positive-none in
    let at = owner (extent_at []) place in
    let one : extent_at [] at ≡ single = sym (no_spans at) in
    let high : (extent_at [] at).rows ≡ 1 = ap (λ (e : Extent). e.rows) one in
    let wide : (extent_at [] at).columns ≡ 1 = ap (λ (e : Extent). e.columns) one in
    let row : at.row ≡ place.row = omega (arith, held.below, held.above, high) in
    let col : at.col ≡ place.col = omega (arith, held.right, held.left, wide) in
    ap (λ (extent : Position → Extent). same_place (owner extent place) place) (fun_ext no_spans) ∙ grind (arith, nat_tests, row, col)

module _ (look : Look) (n : ℕ) (rows : List (List (List ℕ))) (single_cells : look.extent ≡ (λ _. single)) (spaced : look.padding ≡ new_look.padding) (even : AreEven n rows) (some : 0 < length rows) where
  abbrev table : TrackNeeds
  table = column_needs_by_look look n (evened n rows)

  seen : (column row : ℕ) → table.is_visible column row ≡ true
  seen column row = ap (λ (extent : Position → Extent). same_place (owner extent (position_at row column)) (position_at row column)) single_cells ∙ alone (position_at row column)

  one : (column row : ℕ) → table.span column row ≡ 1
  one column row = ap (λ (extent : Position → Extent). (extent (position_at row column)).columns) single_cells

  need-is : (column row : ℕ) → table.need column row ≡ cell_width rows column row
  need-is column row =
      let place = position_at row column in
      let padded : ℕ → ℕ = λ width. width + (look.padding place).left.size + (look.padding place).right.size in
      let left : (look.padding place).left.size ≡ 1 = ap (λ (padding : Position → Sides Indent). (padding place).left.size) spaced in
      let right : (look.padding place).right.size ≡ 1 = ap (λ (padding : Position → Sides Indent). (padding place).right.size) spaced in
      let both : padded (text_width (text_at rows place)) ≡ cell_width rows column row = omega (arith, left, right) in
      ap (λ (found : List (List (List ℕ))). padded (text_width (text_at found place))) (evened-same n rows even) ∙ both

  crossed : length (evened n rows) ≡ length rows
  crossed = length-map rows (evened_row n)

  natural-is : natural_widths look n rows ≡ own_widths rows n
  unfolding natural_widths
  natural-is =
      single-sizes table seen one (omega (arith, crossed, some))
      ∙ (λ i. map (λ column. greatest (map (λ row. need-is column row i) (range_with_len 0 (length (evened n rows))))) (range_with_len 0 n))
      ∙ ap (λ (m : ℕ). map (λ column. greatest (map (cell_width rows column) (range_with_len 0 m))) (range_with_len 0 n)) crossed

-- ---- a framed table

same-below : (f g : ℕ → ℕ) (a n : ℕ) → ((k : ℕ) → a ≤ k → k < a + n → f k ≡ g k) → map f (range_with_len a n) ≡ map g (range_with_len a n)
same-below f g a zero each = refl
same-below f g a (suc n) each =
    ap (λ (x : ℕ). x ∷ map f (range_with_len (a + 1) n)) (each a (omega arith) (omega arith))
    ∙ ap (λ (xs : List ℕ). g a ∷ xs) (same-below f g (a + 1) n (λ k low high. each k (omega (arith, low)) (omega (arith, high))))

-- the columns of the boundaries of so many columns
abbrev pub lines_of : Glyphs ℕ → ℕ → ℕ
lines_of glyphs n =
    length (filter (λ j. has_column_boundary glyphs (boundary_kind j n)) (range_with_len 0 n)) + thickness (has_column_boundary glyphs (boundary_kind n n))

line-width : (look : Look) (widths heights : List ℕ) → look.margin ≡ new_look.margin → full_line_width (frame_of look widths heights) ≡ sum widths + lines_of look.borders (length widths)
line-width look widths heights same =
    let left : look.margin.left.size ≡ 0 = ap (λ (margin : Sides Indent). margin.left.size) same in
    let right : look.margin.right.size ≡ 0 = ap (λ (margin : Sides Indent). margin.right.size) same in
    let all : sum (take (length widths) widths) ≡ sum widths = ap sum (take-length widths) in
    omega (arith, left, right, all)

zero-or : (b : Bool) (x : ℕ) → (if b then 0 else x) ≤ x
zero-or true x = omega arith
zero-or false x = omega arith

some-or : (b : Bool) (x : ℕ) → 0 < (if b then 0 else x) → (if b then 0 else x) ≡ x
some-or true x some = absurd (omega (arith, some))
some-or false x some = refl

module _ (glyphs : Glyphs ℕ) (rows : List (List (List ℕ))) (s : State) (framed : IsFramed glyphs rows s) where
  pub rows-drawn : row_count (drawn_frame s) ≡ length rows
  rows-drawn =
      length-map-range_with_len (given_size (stored_sizes (drawn_sizes s).heights)) 0 (length s.rows) ∙ ap (λ (found : List (List (List ℕ))). length found) framed.rows_are

  -- a table that takes columns has rows
  pub some-rows : 0 < drawn_width s → 0 < length rows
  some-rows some = elim (cases_lt 0 (length rows)) [
    | inl more ↦ more
    | inr none ↦
        let no_rows : row_count (drawn_frame s) ≡ 0 = omega (arith, rows-drawn, none) in
        let nothing : drawn_width s ≡ 0 = ap (λ (m : ℕ). if m == 0 || columns_of_frame (drawn_frame s) == 0 then 0 else full_line_width (drawn_frame s)) no_rows in
        absurd (omega (arith, nothing, some))
  ]

  lines-same : lines_of s.look.borders (length (drawn_widths s)) ≡ lines_of glyphs (length (drawn_widths s))
  lines-same = ap (λ (found : Glyphs ℕ). lines_of found (length (drawn_widths s))) framed.borders

  line-same : full_line_width (drawn_frame s) ≡ sum (drawn_widths s) + lines_of glyphs (length (drawn_widths s))
  line-same = let whole = line-width s.look (drawn_widths s) (drawn_heights s) framed.margin in omega (arith, whole, lines-same)

  pub width-most : drawn_width s ≤ sum (drawn_widths s) + lines_of glyphs (length (drawn_widths s))
  width-most = omega (arith, zero-or (row_count (drawn_frame s) == 0 || columns_of_frame (drawn_frame s) == 0) (full_line_width (drawn_frame s)), line-same)

  pub width-some : 0 < drawn_width s → drawn_width s ≡ sum (drawn_widths s) + lines_of glyphs (length (drawn_widths s))
  width-some some = some-or (row_count (drawn_frame s) == 0 || columns_of_frame (drawn_frame s) == 0) (full_line_width (drawn_frame s)) some ∙ line-same

  -- its columns are as wide as their widest cells
  pub widths-are : (n : ℕ) → AreEven n rows → 0 < length rows → drawn_widths s ≡ own_widths rows n
  widths-are n even some =
      let given : Stored → List (List (List ℕ)) → List ℕ = λ sizes found.
      map (slice_index (unwrap_or sizes.widths (natural_widths s.look (column_count found) found))) (range_with_len 0 (column_count found)) in
      let of_natural : ℕ → List ℕ = λ m. map (slice_index (natural_widths s.look m rows)) (range_with_len 0 m) in
      let kept : given s.sizes s.rows ≡ given none_stored rows = ap (λ (sizes : Stored). given sizes s.rows) framed.sizes ∙ ap (λ (found : List (List (List ℕ))). given none_stored found) framed.rows_are in
      kept ∙ ap of_natural (count-even n rows even some)
      ∙ ap (λ (widths : List ℕ). map (slice_index widths) (range_with_len 0 n)) (natural-is s.look n rows framed.extent framed.padding even some)
      ∙ same-below (slice_index (own_widths rows n)) (own_width rows) 0 n (λ k low high. get_or-map-range_with_len (own_width rows) 0 n k k 0 (omega (arith, high)) (omega arith))
