-- The columns of a table in range, and the paddings beside its texts, are in range.
use Rattle.std.proofs.Common.{◌≡◌, ℕ, ◌+◌, ◌-◌, ◌<◌, ◌≤◌, ◌^◌, min, Bool, List, [], ◌∷◌, length, sum, take, drop, refl, ap, sym, subst, arith}
use Rattle.std.specs.List.{filter, range_with_len}
use Rattle.std.proofs.lemmas.List.Sums.{sum_by-cons}
use Rattle.grid_config.specs.Compact.{Compact}
use Rattle.grid_config_values.specs.Spans.Spans.{extent_at}
use Rattle.grid_config_values.specs.Glyphs.{boundary_count, has_column_boundary}
use Rattle.grid_records_traits.specs.Rows.{evened, text_at}
use Rattle.grid_records_measure.specs.TextLines.{text_width}
use Rattle.grid_records_estimate.specs.Room.{room_in_tracks}
use Rattle.grid_records_estimate.specs.Sizing.{column_needs, compact_sizing, position_at}
use Rattle.grid_records_estimate.specs.Totals.{total}
use Rattle.grid_records_estimate.proofs.Lengths.{length-evened}
use Rattle.grid_records_estimate.proofs.Rooms.{LeaveRoom-widths}
use Rattle.papergrid_picture.specs.Fitting.{InRange}
use Rattle.columns_asked.specs.DrawnTables.{frame_under, heights_of, longest_row_length, paddings, widths_of}
use Rattle.columns_table.proofs.Natural.{positive-none}
use Rattle.columns_table.proofs.SplitRows.{across, height-each, wide-high, width-each, width-total}

total-more : (sizes : List ℕ) (boundaries before behind : ℕ) → sum sizes ≤ total sizes boundaries before behind
total-more [] boundaries before behind = omega arith
total-more (size ∷ sizes) boundaries before behind = omega arith

first-less : (sizes : List ℕ) → sum (take 1 sizes) ≤ sum sizes
first-less [] = omega arith
first-less (size ∷ sizes) = omega (arith, sum_by-cons (λ n. n) size sizes, sum_by-cons (λ n. n) size [])

module _ (style : Compact) (texts : List (List (List ℕ))) (range : InRange (frame_under style texts)) where
  abbrev widths : List ℕ
  widths = widths_of style texts

  sum-wide : 0 < length widths → sum widths < 2 ^ 64
  sum-wide wide =
      let same : across style widths (heights_of style texts) ≡ _ = width-total style widths (heights_of style texts) wide (wide-high style texts wide) in
      let less = total-more widths (boundary_count (has_column_boundary style.borders) (length widths)) style.margin.left.size style.margin.right.size in
      omega (arith, same, less, range.0)

  pub sum-fits : sum (widths_of style texts) < 2 ^ 64
  sum-fits = step widths refl where
    step : (sizes : List ℕ) → widths ≡ sizes → sum widths < 2 ^ 64
    step [] none = subst (λ (sizes : List ℕ). sum sizes < 2 ^ 64) (sym none) (omega arith)
    step (size ∷ sizes) is = sum-wide (omega (arith, ap (λ (found : List ℕ). length found) is))

  -- the first column holds its paddings
  first-room : 0 < longest_row_length texts → room_in_tracks (column_needs (compact_sizing style) (longest_row_length texts) (evened (longest_row_length texts) texts)) widths 0 0 ≤ sum widths
  unfolding extent_at
  first-room some =
      let one : min 1 (longest_row_length texts - 0) ≡ 1 = omega (arith, some) in
      let has : ℕ → Bool = (column_needs (compact_sizing style) (longest_row_length texts) (evened (longest_row_length texts) texts)).has_boundary in
      subst (λ n. sum (take n (drop 0 widths)) + length (filter has (range_with_len (0 + 1) (n - 1))) ≤ sum widths) (sym one) (omega (arith, first-less widths))

  pub paddings-fit : 0 < length (widths_of style texts) → paddings style < 2 ^ 64
  paddings-fit wide =
      let high : 0 < length (heights_of style texts) = wide-high style texts wide in
      let some : 0 < longest_row_length texts = omega (arith, width-each style texts high, wide) in
      let rows : 0 < length (evened (longest_row_length texts) texts) = omega (arith, length-evened (longest_row_length texts) texts, height-each style texts high, high) in
      let left = LeaveRoom-widths (compact_sizing style) (longest_row_length texts) texts 0 0 some rows refl (positive-none (position_at 0 0)).1 in
      let needed : paddings style ≤ text_width (text_at (evened (longest_row_length texts) texts) (position_at 0 0)) + style.padding.left.size + style.padding.right.size = omega arith in
      omega (arith, needed, left, first-room some, sum-fits)
