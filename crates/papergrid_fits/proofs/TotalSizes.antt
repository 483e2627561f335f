-- How many lines and columns a table takes by its sizes.
use Rattle.std.proofs.Common.{◌≡◌, ◌==◌, ◌||◌, ℕ, suc, ◌+◌, ◌<◌, zero, Bool, true, false, cond, List, [], ◌∷◌, length, sum, take, refl, ap, ◌∙◌, sym, arith, add-one}
use Rattle.std.specs.List.{filter, range_with_len}
use Rattle.std.proofs.lemmas.Bool.Decides.{nat_tests}
use Rattle.std.proofs.lemmas.List.{take_all}
use Rattle.grid_config_values.specs.declared.borders.Borders.{Borders}
use Rattle.grid_config_values.specs.declared.sides.Indent.{Indent}
use Rattle.grid_config_values.specs.declared.sides.Sides.{Sides}
use Rattle.grid_config_values.specs.Glyphs.{boundary_count, has_column_boundary, has_row_boundary}
use Rattle.grid_config.specs.Looks.{Look}
use Rattle.grid_records_estimate.specs.Estimates.{track_sizes}
use Rattle.grid_records_estimate.specs.Sizes.{height_total, table_heights, table_widths, width_total}
use Rattle.grid_records_estimate.specs.Sizing.{TableSizing}
use Rattle.grid_records_estimate.specs.Totals.{total}
use Rattle.grid_records_estimate.proofs.Lengths.{length-table_heights, length-table_widths}
use Rattle.papergrid_picture.specs.Fitting.{table_width}
use Rattle.papergrid_picture.specs.Frame.{Frame, Tracks, frame_of, full_line_width, line_count, thickness, track_at}
use Rattle.papergrid_fits.proofs.Reach.{filtered-more}

-- up to the last boundary, and that one
track-total : (tracks : Tracks) (behind : ℕ) → track_at tracks (length tracks.sizes) + behind
    ≡ sum tracks.sizes + length (filter tracks.has_boundary (range_with_len 0 (length tracks.sizes + 1))) + tracks.margin + behind
track-total tracks behind =
    let n = length tracks.sizes in
    let same : 0 + n ≡ n = omega arith in
    let all : sum (take n tracks.sizes) ≡ sum tracks.sizes = ap sum (take_all n tracks.sizes (omega arith)) in
    let more : length (filter tracks.has_boundary (range_with_len 0 (n + 1))) ≡ length (filter tracks.has_boundary (range_with_len 0 n)) + thickness (tracks.has_boundary n) =
    ap (λ k. length (filter tracks.has_boundary (range_with_len 0 k))) (add-one n) ∙ filtered-more tracks.has_boundary 0 n
    ∙ ap (λ k. length (filter tracks.has_boundary (range_with_len 0 n)) + thickness (tracks.has_boundary k)) same in
    omega (arith, all, more)

-- some: 0 < n
some-not_none : (n : ℕ) → 0 < n → (n == 0) ≡ false
some-not_none n some = grind (arith, nat_tests, some)

some-of : {A : Type 0} (x : A) (xs : List A) → (length (x ∷ xs) == 0) ≡ false
some-of x xs = some-not_none (length (x ∷ xs)) (omega arith)

module _ (look : Look) where
  pub lines-total : (widths heights : List ℕ) → 0 < length widths
      → line_count (frame_of look widths heights) ≡ total heights (boundary_count (has_row_boundary look.borders) (length heights)) look.margin.top.size look.margin.bottom.size
  lines-total widths [] some = refl
  lines-total widths (height ∷ heights) some =
      let tracks = (frame_of look widths (height ∷ heights)).rows in
      ap (λ b. cond b 0 (cond (length widths == 0) 0 (track_at tracks (length (height ∷ heights)) + look.margin.bottom.size))) (some-of height heights)
      ∙ ap (λ b. cond b 0 (track_at tracks (length (height ∷ heights)) + look.margin.bottom.size)) (some-not_none (length widths) some)
      ∙ track-total tracks look.margin.bottom.size

  pub columns-total : (widths heights : List ℕ) → 0 < length heights
      → table_width (frame_of look widths heights) ≡ total widths (boundary_count (has_column_boundary look.borders) (length widths)) look.margin.left.size look.margin.right.size
  columns-total [] heights some = ap (λ b. cond (b || (0 == 0)) 0 (full_line_width (frame_of look [] heights))) (some-not_none (length heights) some)
  columns-total (width ∷ widths) heights some =
      let frame = frame_of look (width ∷ widths) heights in
      ap (λ b. cond (b || (length (width ∷ widths) == 0)) 0 (full_line_width frame)) (some-not_none (length heights) some)
      ∙ ap (λ b. cond b 0 (full_line_width frame)) (some-of width widths)
      ∙ track-total frame.columns look.margin.right.size

-- nothing crosses the tracks: there are none
no-heights : (sizing : TableSizing) (rows : List (List (List ℕ))) → table_heights sizing 0 rows ≡ []
unfolding table_heights track_sizes
no-heights sizing rows = refl

no-widths : (sizing : TableSizing) (columns : ℕ) → table_widths sizing columns [] ≡ []
unfolding table_widths track_sizes
no-widths sizing columns = refl

-- an estimate's totals are those of the table that has its sizes
module _ (look : Look) (sizing : TableSizing) (borders : look.borders ≡ sizing.borders) (margin : look.margin ≡ sizing.margin) where
  abbrev estimated : ℕ → List (List (List ℕ)) → Frame
  estimated columns rows = frame_of look (table_widths sizing columns rows) (table_heights sizing columns rows)

  lines-by : (columns : ℕ) (rows : List (List (List ℕ))) (heights : List ℕ) → table_heights sizing columns rows ≡ heights → 0 < columns
      → line_count (frame_of look (table_widths sizing columns rows) heights) ≡ total heights (boundary_count (has_row_boundary sizing.borders) (length rows)) sizing.margin.top.size sizing.margin.bottom.size
  lines-by columns rows [] is some = refl
  lines-by columns rows (height ∷ heights) is some =
      let long : length (height ∷ heights) ≡ length rows = sym (ap length is) ∙ length-table_heights sizing columns rows some in
      let wide : length (table_widths sizing columns rows) ≡ columns = length-table_widths sizing columns rows (omega (arith, long)) in
      lines-total look (table_widths sizing columns rows) (height ∷ heights) (omega (arith, wide, some))
      ∙ ap (λ n. total (height ∷ heights) (boundary_count (has_row_boundary look.borders) n) look.margin.top.size look.margin.bottom.size) long
      ∙ ap (λ (b : Borders ℕ). total (height ∷ heights) (boundary_count (has_row_boundary b) (length rows)) look.margin.top.size look.margin.bottom.size) borders
      ∙ ap (λ (m : Sides Indent). total (height ∷ heights) (boundary_count (has_row_boundary sizing.borders) (length rows)) m.top.size m.bottom.size) margin

  pub estimated-lines : (columns : ℕ) (rows : List (List (List ℕ))) → line_count (estimated columns rows) ≡ height_total sizing columns rows
  estimated-lines zero rows =
      ap (λ heights. line_count (frame_of look (table_widths sizing 0 rows) heights)) (no-heights sizing rows)
      ∙ ap (λ heights. total heights (boundary_count (has_row_boundary sizing.borders) (length rows)) sizing.margin.top.size sizing.margin.bottom.size) (sym (no-heights sizing rows))
  estimated-lines (suc n) rows = lines-by (suc n) rows (table_heights sizing (suc n) rows) refl (omega arith)

  columns-by : (columns : ℕ) (rows : List (List (List ℕ))) (widths : List ℕ) → table_widths sizing columns rows ≡ widths → 0 < length rows
      → table_width (frame_of look widths (table_heights sizing columns rows)) ≡ total widths (boundary_count (has_column_boundary sizing.borders) columns) sizing.margin.left.size sizing.margin.right.size
  columns-by columns rows [] is some = no-columns (length (table_heights sizing columns rows) == 0)
    where
      no-columns : (b : Bool) → cond (b || (0 == 0)) 0 (full_line_width (frame_of look [] (table_heights sizing columns rows))) ≡ 0
      no-columns true = refl
      no-columns false = refl
  columns-by columns rows (width ∷ widths) is some =
      let wide : length (width ∷ widths) ≡ columns = sym (ap length is) ∙ length-table_widths sizing columns rows some in
      let long : length (table_heights sizing columns rows) ≡ length rows = length-table_heights sizing columns rows (omega (arith, wide)) in
      columns-total look (width ∷ widths) (table_heights sizing columns rows) (omega (arith, long, some))
      ∙ ap (λ n. total (width ∷ widths) (boundary_count (has_column_boundary look.borders) n) look.margin.left.size look.margin.right.size) wide
      ∙ ap (λ (b : Borders ℕ). total (width ∷ widths) (boundary_count (has_column_boundary b) columns) look.margin.left.size look.margin.right.size) borders
      ∙ ap (λ (m : Sides Indent). total (width ∷ widths) (boundary_count (has_column_boundary sizing.borders) columns) m.left.size m.right.size) margin

  pub estimated-columns : (columns : ℕ) (rows : List (List (List ℕ))) → table_width (estimated columns rows) ≡ width_total sizing columns rows
  estimated-columns columns [] =
      ap (λ widths. table_width (frame_of look widths (table_heights sizing columns []))) (no-widths sizing columns)
      ∙ no-columns (length (table_heights sizing columns []) == 0)
      ∙ ap (λ widths. total widths (boundary_count (has_column_boundary sizing.borders) columns) sizing.margin.left.size sizing.margin.right.size) (sym (no-widths sizing columns))
    where
      no-columns : (b : Bool) → cond (b || (0 == 0)) 0 (full_line_width (frame_of look [] (table_heights sizing columns []))) ≡ 0
      no-columns true = refl
      no-columns false = refl
  estimated-columns columns (row ∷ rows) = columns-by columns (row ∷ rows) (table_widths sizing columns (row ∷ rows)) refl (omega arith)
