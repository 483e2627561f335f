-- How many columns a table takes: with a width, without one, and at least.
use Rattle.std.proofs.Common.{◌≡◌, ◌+◌, ◌<◌, ◌≤◌, max, min, ℕ, suc, inl, inr, List, [], ◌∷◌, None, Some, map, length, sum, slice_index, ap, ◌∙◌, arith}
use Rattle.std.proofs.lemmas.Bool.{cases_lt}
use Rattle.std.proofs.lemmas.List.{length-map}
use Rattle.std.proofs.lemmas.List.Sums.{sum_by-cons}
use Rattle.grid_config.specs.Compact.{Compact}
use Rattle.papergrid_picture.specs.Fitting.{table_width}
use Rattle.columns_asked.specs.declared.asked.WidthLimit.{WidthLimit}
use Rattle.columns_asked.specs.DrawnTables.{asked_frame, frame_under, heights_of, paddings, widths_of}
use Rattle.columns_table.specs.Asking.{narrowest_frame}
use Rattle.columns_table.proofs.AskedWidths.{padded, rest, sum-and-rest, width-fitting, width-narrowed, width-unasked}
use Rattle.columns_table.proofs.Narrowed.{some-of-table}
use Rattle.columns_table.proofs.SplitRows.{height-each, width-each}
use Rattle.columns_run.specs.DrawnTables.{grid_of, resized_texts}
use Rattle.columns_run.specs.Rows.{cell_parts}
use Rattle.columns_run.specs.Wanted.{Wanted}
use Rattle.columns_run.specs.Widths.{narrowest_columns, natural_columns, taken_columns}

sums-le : (p : ℕ) (ws : List ℕ) → ((k : ℕ) → k < length ws → p ≤ slice_index ws k) → sum (map (λ _. p) ws) ≤ sum ws
sums-le p [] each = omega arith
sums-le p (w ∷ ws) each =
    let here : p ≤ w = each 0 (omega arith) in
    let rest = sums-le p ws (λ k below. each (suc k) (omega (arith, below))) in
    let one = sum_by-cons (λ n. n) w ws in
    let other = sum_by-cons (λ n. n) p (map (λ _. p) ws) in
    omega (arith, here, rest, one, other)

module _ (style : Compact) (texts : List (List (List ℕ))) where
  -- the least total is no more than the natural one
  least-less : 0 < table_width (frame_under style texts) → table_width (narrowest_frame style texts) ≤ table_width (frame_under style texts)
  least-less some =
      let widths = widths_of style texts in
      let heights = heights_of style texts in
      let leasts = map (λ _. paddings style) widths in
      let sizes = some-of-table style widths heights some in
      let rows : 0 < length texts = omega (arith, height-each style texts sizes.1, sizes.1) in
      let enough : (k : ℕ) → k < length widths → paddings style ≤ slice_index widths k = λ k below. padded style texts rows k (omega (arith, below, width-each style texts sizes.1)) below in
      let many : length leasts ≡ length widths = length-map widths (λ _. paddings style) in
      let natural = sum-and-rest style texts widths heights sizes.0 sizes.1 in
      let least : table_width (narrowest_frame style texts) ≡ sum leasts + rest style texts (length widths) = sum-and-rest style texts leasts heights (omega (arith, many, sizes.0)) sizes.1 ∙ ap (λ n. sum leasts + rest style texts n) many in
      omega (arith, natural, least, sums-le (paddings style) widths enough)

  pub asked-total : (asked : WidthLimit) (width : ℕ) → asked.width ≡ Some width → table_width (asked_frame style asked texts) ≡ min (table_width (frame_under style texts)) (max width (table_width (narrowest_frame style texts)))
  asked-total asked width is =
      elim (cases_lt width (table_width (frame_under style texts))) [
        | inl less ↦ omega (arith, width-narrowed style asked texts width is less, least-less (omega (arith, less)))
        | inr more ↦ let fits : table_width (frame_under style texts) ≤ width = omega (arith, more) in omega (arith, width-fitting style asked texts width is fits, fits)
      ]

-- ---- the table of a text

module _ (wanted : Wanted) (input : List ℕ) where
  pub total-asked : (width : ℕ) → wanted.limit.width ≡ Some width → taken_columns wanted input ≡ min (natural_columns wanted input) (max width (narrowest_columns wanted input))
  unfolding grid_of resized_texts
  total-asked width is = asked-total wanted.style (cell_parts input) wanted.limit width is

  pub total-natural : wanted.limit.width ≡ None → taken_columns wanted input ≡ natural_columns wanted input
  unfolding grid_of resized_texts
  total-natural none = width-unasked wanted.style wanted.limit (cell_parts input) none
