-- Rows that a list of cells is split into, and the sizes of a table of their texts.
use Rattle.std.proofs.Common.{◌≡◌, ◌==◌, ◌||◌, ℕ, ◌+◌, ◌^◌, ◌<◌, ◌≤◌, ◌⊎◌, inl, inr, Bool, true, false, cond, List, [], ◌∷◌, ◌++◌, map, length, sum, take, drop, refl, ap, sym, subst, ◌∙◌, arith, length-drop, if◌then◌else◌}
use Rattle.std.specs.List.{filter, range_with_len}
use Rattle.std.proofs.lemmas.Bool.Decides.{nat_tests}
use Rattle.std.proofs.lemmas.List.{length-map, length-take-le, take_all}
use Rattle.std.proofs.lemmas.List.Sums.{sum_by-cons}
use Rattle.std.proofs.lemmas.Simd.{map-map}
use Rattle.grid_config.specs.Compact.{Compact}
use Rattle.grid_config.specs.Looks.{compact_look}
use Rattle.grid_config_values.specs.Glyphs.{boundary_count, has_column_boundary, has_row_boundary}
use Rattle.grid_config_values.specs.declared.borders.Borders.{Borders}
use Rattle.grid_config_values.specs.declared.sides.Indent.{Indent}
use Rattle.grid_config_values.specs.declared.sides.Sides.{Sides}
use Rattle.grid_records_traits.specs.Rows.{evened}
use Rattle.grid_records_estimate.specs.Collecting.{PassesMax}
use Rattle.grid_records_estimate.specs.Estimates.{TrackNeeds, greatest, track_sizes}
use Rattle.grid_records_estimate.specs.Sizes.{table_heights, table_widths}
use Rattle.grid_records_estimate.specs.Sizing.{TableSizing, column_needs, compact_sizing, row_needs}
use Rattle.grid_records_estimate.specs.Totals.{total}
use Rattle.grid_records_estimate.proofs.Lengths.{length-evened, length-table_heights, length-table_widths}
use Rattle.grid_records_estimate.proofs.Sizes.{total-passes}
use Rattle.papergrid_picture.specs.Fitting.{InRange, table_width}
use Rattle.papergrid_picture.specs.Frame.{Tracks, frame_of, line_count, thickness, track_at}
use Rattle.papergrid_picture.proofs.Frames.{range_with_len-more}
use Rattle.columns_asked.specs.DrawnTables.{frame_under, heights_of, longest_row_length, widths_of}
use Rattle.columns_table.specs.Rows.{cell_texts, split_by_lengths}
use Rattle.columns_table.specs.declared.cells.LineCell.{LineCell}

-- ---- rows that a list is split into

-- pieces of these lengths have these lengths
pub length-split : {X : Type 0} (counts : List ℕ) (xs : List X) → sum counts ≡ length xs → map (λ piece. length piece) (split_by_lengths counts xs) ≡ counts
length-split [] xs h = refl
length-split {X} (n ∷ ns) xs h =
    let total = sum_by-cons (λ k. k) n ns in
    let fits : n ≤ length xs = omega (arith, total) in
    let left : sum ns ≡ length (drop n xs) = omega (arith, total, length-drop n xs) in
    ap (λ k. k ∷ map (λ piece. length piece) (split_by_lengths ns (drop n xs))) (length-take-le n xs fits) ∙ ap (λ ks. n ∷ ks) (length-split ns (drop n xs) left)

-- the texts of the rows
module _ (counts : List ℕ) (cells : List LineCell) where
  abbrev pub split_texts : List (List (List ℕ))
  split_texts = map cell_texts (split_by_lengths counts cells)

  pub columns-split : sum counts ≡ length cells → longest_row_length split_texts ≡ greatest counts
  columns-split whole =
      ap greatest (map-map (λ (row : List (List ℕ)). length row) cell_texts (split_by_lengths counts cells))
      ∙ ap greatest (λ k. map (λ row. length-map row (λ (cell : LineCell). cell.text.now) k) (split_by_lengths counts cells))
      ∙ ap greatest (length-split counts cells whole)

-- ---- totals

filter-last : (p : ℕ → Bool) (xs : List ℕ) (x : ℕ) → length (filter p (xs ++ x ∷ [])) ≡ length (filter p xs) + thickness (p x)
filter-last p [] x = one (p x)
  where
    one : (b : Bool) → length (cond b (x ∷ []) []) ≡ 0 + thickness b
    one true = refl
    one false = refl
filter-last p (y ∷ ys) x = onto (p y) (filter-last p ys x)
  where
    onto : (b : Bool) → length (filter p (ys ++ x ∷ [])) ≡ length (filter p ys) + thickness (p x)
        → length (cond b (y ∷ filter p (ys ++ x ∷ [])) (filter p (ys ++ x ∷ []))) ≡ length (cond b (y ∷ filter p ys) (filter p ys)) + thickness (p x)
    onto true same = omega (arith, same)
    onto false same = same

counted : (p : ℕ → Bool) (n : ℕ) → length (filter p (range_with_len 0 (n + 1))) ≡ length (filter p (range_with_len 0 n)) + thickness (p n)
counted p n =
    let place : 0 + n ≡ n = omega arith in
    ap (λ ns. length (filter p ns)) (range_with_len-more 0 n) ∙ ap (λ m. length (filter p (range_with_len 0 n ++ m ∷ []))) place ∙ filter-last p (range_with_len 0 n) n

-- a total is where the tracks end, and the margin after them
tracks-total : (tracks : Tracks) (behind : ℕ) → 0 < length tracks.sizes
    → total tracks.sizes (length (filter tracks.has_boundary (range_with_len 0 (length tracks.sizes + 1)))) tracks.margin behind ≡ track_at tracks (length tracks.sizes) + behind
tracks-total tracks behind some = step tracks.sizes refl some where
  step : (sizes : List ℕ) → tracks.sizes ≡ sizes → 0 < length sizes
      → total sizes (length (filter tracks.has_boundary (range_with_len 0 (length sizes + 1)))) tracks.margin behind
      ≡ tracks.margin + sum (take (length sizes) tracks.sizes) + length (filter tracks.has_boundary (range_with_len 0 (length sizes))) + thickness (tracks.has_boundary (length sizes)) + behind
  step [] same some = absurd (omega arith)
  step (size ∷ sizes) same some =
      let all : length tracks.sizes ≤ length (size ∷ sizes) = omega (arith, ap (λ xs. length xs) same) in
      let whole : sum (take (length (size ∷ sizes)) tracks.sizes) ≡ sum (size ∷ sizes) = ap sum (take_all (length (size ∷ sizes)) tracks.sizes all ∙ same) in
      omega (arith, whole, counted tracks.has_boundary (length (size ∷ sizes)))

module _ (style : Compact) (widths heights : List ℕ) where
  abbrev pub across : ℕ
  across = total widths (boundary_count (has_column_boundary style.borders) (length widths)) style.margin.left.size style.margin.right.size

  abbrev pub down : ℕ
  down = total heights (boundary_count (has_row_boundary style.borders) (length heights)) style.margin.top.size style.margin.bottom.size

  is_some : (n : ℕ) → 0 < n → (n == 0) ≡ false
  is_some n h = grind (arith, nat_tests)

  pub width-total : 0 < length widths → 0 < length heights → across ≡ table_width (frame_of (compact_look style) widths heights)
  width-total wide high =
      tracks-total (frame_of (compact_look style) widths heights).columns style.margin.right.size wide
      ∙ sym (ap (λ b. if b || (length widths == 0) then 0 else track_at (frame_of (compact_look style) widths heights).columns (length widths) + style.margin.right.size) (is_some (length heights) high)
      ∙ ap (λ b. if b then 0 else track_at (frame_of (compact_look style) widths heights).columns (length widths) + style.margin.right.size) (is_some (length widths) wide))

  pub height-total : 0 < length widths → 0 < length heights → down ≡ line_count (frame_of (compact_look style) widths heights)
  height-total wide high =
      tracks-total (frame_of (compact_look style) widths heights).rows style.margin.bottom.size high
      ∙ sym (ap (λ b. if b then 0 else if length widths == 0 then 0 else track_at (frame_of (compact_look style) widths heights).rows (length heights) + style.margin.bottom.size) (is_some (length heights) high)
      ∙ ap (λ b. if b then 0 else track_at (frame_of (compact_look style) widths heights).rows (length heights) + style.margin.bottom.size) (is_some (length widths) wide))

  pub in_range : 0 < length widths → 0 < length heights → across < 2 ^ 64 → down < 2 ^ 64 → InRange (frame_of (compact_look style) widths heights)
  in_range wide high w h = (subst (λ n. n < 2 ^ 64) (width-total wide high) w, subst (λ n. n < 2 ^ 64) (height-total wide high) h)

  pub too_wide : 0 < length widths → 0 < length heights → 2 ^ 64 ≤ across → ¬ (InRange (frame_of (compact_look style) widths heights))
  too_wide wide high over = λ fits. let same = width-total wide high in let low = fits.0 in omega (arith, same, low, over)

  pub too_high : 0 < length widths → 0 < length heights → 2 ^ 64 ≤ down → ¬ (InRange (frame_of (compact_look style) widths heights))
  too_high wide high over = λ fits. let same = height-total wide high in let low = fits.1 in omega (arith, same, low, over)

-- what is added up is their total
module _ (style : Compact) (widths heights : List ℕ) (borders : Borders ℕ) (margin : Sides Indent) (glyphs : borders ≡ style.borders) (round : margin ≡ style.margin) (n : ℕ) where
  pub across-is : n ≡ boundary_count (has_column_boundary borders) (length widths) → total widths n margin.left.size margin.right.size ≡ across style widths heights
  across-is number =
      ap (λ m. total widths m margin.left.size margin.right.size) (number ∙ ap (λ b. boundary_count (has_column_boundary b) (length widths)) glyphs)
      ∙ ap (λ m. total widths (boundary_count (has_column_boundary style.borders) (length widths)) m.left.size m.right.size) round

  pub down-is : n ≡ boundary_count (has_row_boundary borders) (length heights) → total heights n margin.top.size margin.bottom.size ≡ down style widths heights
  down-is number =
      ap (λ m. total heights m margin.top.size margin.bottom.size) (number ∙ ap (λ b. boundary_count (has_row_boundary b) (length heights)) glyphs)
      ∙ ap (λ m. total heights (boundary_count (has_row_boundary style.borders) (length heights)) m.top.size m.bottom.size) round

pub some-of : (n : ℕ) (b : Bool) → b ≡ (n == 0) → b ≡ false → 0 < n
some-of n b is off = let e : (n == 0) ≡ false = sym is ∙ off in grind (arith, nat_tests)

-- ---- sizes that are too great

passing : (sizes : List ℕ) → PassesMax sizes → 0 < length sizes
passing [] p = let high : 2 ^ 64 ≤ 0 = p.1 in absurd (omega arith)
passing (size ∷ sizes) p = omega arith

none-crossed : (table : TrackNeeds) → table.cross_tracks ≡ 0 → length (track_sizes table) ≡ 0
unfolding track_sizes
none-crossed table none =
    let test : (table.cross_tracks == 0) ≡ true = grind (arith, nat_tests) in
    rw test refl

module _ (style : Compact) (texts : List (List (List ℕ))) where
  abbrev sizing : TableSizing
  sizing = compact_sizing style

  abbrev columns : ℕ
  columns = longest_row_length texts

  -- a table with a width has rows, and one with a height has columns
  some-rows : 0 < length (widths_of style texts) → 0 < length texts
  unfolding table_widths
  some-rows wide = step (length texts == 0) refl where
    step : (b : Bool) → (length texts == 0) ≡ b → 0 < length texts
    step true e =
        let none : length texts ≡ 0 = grind (arith, nat_tests) in
        let gone = none-crossed (column_needs sizing columns (evened columns texts)) (length-evened columns texts ∙ none) in
        absurd (omega (arith, wide, gone))
    step false e = grind (arith, nat_tests)

  some-columns : 0 < length (heights_of style texts) → 0 < columns
  unfolding table_heights
  some-columns high = step (columns == 0) refl where
    step : (b : Bool) → (columns == 0) ≡ b → 0 < columns
    step true e =
        let none : columns ≡ 0 = grind (arith, nat_tests) in
        let gone = none-crossed (row_needs sizing columns (evened columns texts)) none in
        absurd (omega (arith, high, gone))
    step false e = grind (arith, nat_tests)

  pub wide-high : 0 < length (widths_of style texts) → 0 < length (heights_of style texts)
  wide-high wide =
      let rows = some-rows wide in
      let some : 0 < columns = omega (arith, wide, length-table_widths sizing columns texts rows) in
      omega (arith, rows, length-table_heights sizing columns texts some)

  pub high-wide : 0 < length (heights_of style texts) → 0 < length (widths_of style texts)
  high-wide high =
      let some = some-columns high in
      let rows : 0 < length texts = omega (arith, high, length-table_heights sizing columns texts some) in
      omega (arith, some, length-table_widths sizing columns texts rows)

  -- there is a size of each
  pub width-each : 0 < length (heights_of style texts) → length (widths_of style texts) ≡ columns
  width-each high = let rows = some-rows (high-wide high) in length-table_widths sizing columns texts rows

  pub height-each : 0 < length (heights_of style texts) → length (heights_of style texts) ≡ length texts
  height-each high = length-table_heights sizing columns texts (some-columns high)

  pub one-too_great : PassesMax (widths_of style texts) ⊎ PassesMax (heights_of style texts) → ¬ (InRange (frame_under style texts))
  one-too_great (inl passes) =
      let wide = passing (widths_of style texts) passes in
      too_wide style (widths_of style texts) (heights_of style texts) wide (wide-high wide)
      (total-passes (widths_of style texts) (boundary_count (has_column_boundary style.borders) (length (widths_of style texts))) style.margin.left.size style.margin.right.size passes)
  one-too_great (inr passes) =
      let high = passing (heights_of style texts) passes in
      too_high style (widths_of style texts) (heights_of style texts) (high-wide high) high
      (total-passes (heights_of style texts) (boundary_count (has_row_boundary style.borders) (length (heights_of style texts))) style.margin.top.size style.margin.bottom.size passes)

-- where there are no widths or no heights nothing is out of range
module _ (style : Compact) where
  pub none-wide : (heights : List ℕ) → (line_count (frame_of (compact_look style) [] heights) ≡ 0) × InRange (frame_of (compact_look style) [] heights)
  none-wide heights =
      let frame = frame_of (compact_look style) [] heights in
      let lines : line_count frame ≡ 0 = no_lines (length heights == 0) (track_at frame.rows (length heights) + style.margin.bottom.size) in
      let columns : table_width frame ≡ 0 = no_columns (length heights == 0) (track_at frame.columns 0 + style.margin.right.size) in
      (lines, (omega (arith, columns), omega (arith, lines)))
    where
      no_lines : (b : Bool) (n : ℕ) → (if b then 0 else if true then 0 else n) ≡ 0
      no_lines true n = refl
      no_lines false n = refl

      no_columns : (b : Bool) (n : ℕ) → (if b || true then 0 else n) ≡ 0
      no_columns true n = refl
      no_columns false n = refl

  pub none-high : (widths : List ℕ) → (line_count (frame_of (compact_look style) widths []) ≡ 0) × InRange (frame_of (compact_look style) widths [])
  none-high widths = (refl, (omega arith, omega arith))
