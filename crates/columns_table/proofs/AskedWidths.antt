-- How wide a table is in the requested width.
use Rattle.std.proofs.Common.{◌≡◌, ℕ, zero, suc, ◌+◌, ◌-◌, ◌<◌, ◌≤◌, max, min, nat_le, Bool, false, List, [], ◌∷◌, None, Some, map, length, sum, take, drop, slice_index, refl, ap, sym, subst, ◌∙◌, arith, if◌then◌else◌}
use Rattle.std.specs.List.{filter, range_with_len}
use Rattle.std.proofs.lemmas.Bool.Decides.{nat_tests}
use Rattle.std.proofs.lemmas.List.{length-map}
use Rattle.std.proofs.lemmas.List.Sums.{sum_by-cons}
use Rattle.grid_config.specs.Compact.{Compact}
use Rattle.grid_config.specs.Looks.{compact_look}
use Rattle.grid_config_values.specs.Spans.Spans.{extent_at}
use Rattle.grid_config_values.specs.Glyphs.{boundary_count, has_column_boundary}
use Rattle.grid_records_measure.specs.TextLines.{text_width}
use Rattle.grid_records_traits.specs.Rows.{evened, text_at}
use Rattle.grid_records_estimate.specs.Sizing.{column_needs, compact_sizing}
use Rattle.grid_records_estimate.specs.Totals.{total}
use Rattle.grid_records_estimate.proofs.Lengths.{length-evened}
use Rattle.grid_records_estimate.proofs.Rooms.{LeaveRoom-widths}
use Rattle.papergrid_picture.specs.Fitting.{table_width}
use Rattle.papergrid_picture.specs.Frame.{Frame, frame_of}
use Rattle.papergrid_picture.specs.Picture.{at}
use Rattle.columns_asked.specs.DrawnTables.{asked_frame, frame_under, heights_of, resized_rows, longest_row_length, narrow, narrowed, paddings, widths_of}
use Rattle.columns_asked.specs.Shrunk.{shrunk_list}
use Rattle.columns_asked.specs.declared.asked.WidthLimit.{WidthLimit}
use Rattle.columns_asked.proofs.Narrows.{narrowed-none, shrunk-leaves, shrunk-length}
use Rattle.columns_asked.proofs.Shrunk.{shrunk_list-meets}
use Rattle.columns_table.specs.Asking.{narrowest_frame}
use Rattle.columns_table.proofs.Narrowed.{frame-is, frame-natural, some-heights-kept, some-of-table}
use Rattle.columns_table.proofs.Natural.{positive-none}
use Rattle.columns_table.proofs.SplitRows.{height-each, width-each, width-total}

-- ---- sums

total-sum : (sizes : List ℕ) (boundaries before behind : ℕ) → 0 < length sizes → total sizes boundaries before behind ≡ sum sizes + boundaries + before + behind
total-sum [] boundaries before behind some = absurd (omega (arith, some))
total-sum (size ∷ sizes) boundaries before behind some = refl

pub one-taken : (sizes : List ℕ) (k : ℕ) → k < length sizes → sum (take 1 (drop k sizes)) ≡ slice_index sizes k
one-taken [] k below = absurd (omega (arith, below))
one-taken (size ∷ sizes) zero below = let one = sum_by-cons (λ n. n) size [] in omega (arith, one)
one-taken (size ∷ sizes) (suc k) below = one-taken sizes k (omega (arith, below))

-- ---- widths

module _ (style : Compact) (texts : List (List (List ℕ))) where
  abbrev natural : List ℕ
  natural = widths_of style texts

  abbrev columns : ℕ
  columns = longest_row_length texts

  -- no column is narrower than the paddings beside a text
  pub padded : 0 < length texts → (k : ℕ) → k < columns → k < length natural → paddings style ≤ slice_index natural k
  unfolding extent_at
  padded some k inside below =
      let one : min 1 (columns - k) ≡ 1 = omega (arith, inside) in
      let cross_track : 0 < length (evened columns texts) = omega (arith, some, length-evened columns texts) in
      let has : ℕ → Bool = (column_needs (compact_sizing style) columns (evened columns texts)).has_boundary in
      let here = LeaveRoom-widths (compact_sizing style) columns texts k 0 inside cross_track refl (positive-none (at 0 k)).1 in
      let whole : text_width (text_at (evened columns texts) (at 0 k)) + style.padding.left.size + style.padding.right.size ≤ sum (take 1 (drop k natural)) + length (filter has (range_with_len (k + 1) (1 - 1))) =
      subst (λ n. text_width (text_at (evened columns texts) (at 0 k)) + style.padding.left.size + style.padding.right.size ≤ sum (take n (drop k natural)) + length (filter has (range_with_len (k + 1) (n - 1)))) one here in
      omega (arith, whole, one-taken natural k below)

  -- how much the table takes beside its columns
  abbrev pub rest : ℕ → ℕ
  rest n = boundary_count (has_column_boundary style.borders) n + style.margin.left.size + style.margin.right.size

  pub sum-and-rest : (widths heights : List ℕ) → 0 < length widths → 0 < length heights → table_width (frame_of (compact_look style) widths heights) ≡ sum widths + rest (length widths)
  sum-and-rest widths heights wide high =
      let same = total-sum widths (boundary_count (has_column_boundary style.borders) (length widths)) style.margin.left.size style.margin.right.size wide in
      let width = width-total style widths heights wide high in
      omega (arith, same, width)

module _ (style : Compact) (asked : WidthLimit) (texts : List (List (List ℕ))) where
  abbrev taken : ℕ
  taken = table_width (frame_under style texts)

  abbrev leasts : List ℕ
  leasts = map (λ _. paddings style) (widths_of style texts)

  module _ (width : ℕ) (is_width : asked.width ≡ Some width) (more : width < taken) where
    abbrev shrunk : List ℕ
    shrunk = shrunk_list asked.priority leasts (taken - width) (widths_of style texts)

    wider : nat_le taken width ≡ false
    wider = grind (arith, nat_tests, more)

    told : narrowed style asked texts ≡ Some shrunk
    told = ap (narrow style asked (widths_of style texts) taken) is_width ∙ ap (λ (test : Bool). if test then None else Some shrunk) wider

    some : (0 < length (widths_of style texts)) × (0 < length (heights_of style texts))
    some = some-of-table style (widths_of style texts) (heights_of style texts) (omega (arith, more))

    enough : (k : ℕ) → k < length (widths_of style texts) → paddings style ≤ slice_index (widths_of style texts) k
    enough k below =
        let rows : 0 < length texts = omega (arith, some.1, height-each style texts some.1) in
        padded style texts rows k (omega (arith, below, width-each style texts some.1)) below

    shrunk-sums : sum shrunk ≡ max (sum (widths_of style texts) - (taken - width)) (sum leasts)
    shrunk-sums = shrunk-leaves asked.priority (paddings style) (taken - width) (widths_of style texts) enough

    shrunk-many : length shrunk ≡ length (widths_of style texts)
    shrunk-many = shrunk-length asked.priority leasts (taken - width) (widths_of style texts) shrunk (shrunk_list-meets asked.priority leasts (taken - width) (widths_of style texts))

    pub width-narrowed : table_width (asked_frame style asked texts) ≡ max width (table_width (narrowest_frame style texts))
    width-narrowed =
        let kept : List ℕ = heights_of style (resized_rows style asked texts) in
        let wide : 0 < length shrunk = omega (arith, shrunk-many, some.0) in
        let high : 0 < length kept = some-heights-kept style asked texts shrunk told in
        let many : length leasts ≡ length (widths_of style texts) = length-map (widths_of style texts) (λ _. paddings style) in
        let before = sum-and-rest style texts (widths_of style texts) (heights_of style texts) some.0 some.1 in
        let least : table_width (narrowest_frame style texts) ≡ sum leasts + rest style texts (length (widths_of style texts)) =
        sum-and-rest style texts leasts (heights_of style texts) (omega (arith, many, some.0)) some.1 ∙ ap (λ n. sum leasts + rest style texts n) many in
        let after : table_width (asked_frame style asked texts) ≡ sum shrunk + rest style texts (length (widths_of style texts)) =
        ap (λ (frame : Frame). table_width frame) (sym (frame-is style asked texts shrunk told kept refl))
        ∙ sum-and-rest style texts shrunk kept wide high ∙ ap (λ n. sum shrunk + rest style texts n) shrunk-many in
        omega (arith, before, least, after, shrunk-sums, more)

  width-natural : narrowed style asked texts ≡ None → table_width (asked_frame style asked texts) ≡ taken
  width-natural none = ap (λ (frame : Frame). table_width frame) (frame-natural style asked texts none)

  pub width-fitting : (width : ℕ) → asked.width ≡ Some width → taken ≤ width → table_width (asked_frame style asked texts) ≡ taken
  width-fitting width is_width less = width-natural (narrowed-none style asked (widths_of style texts) taken width is_width less)

  pub width-unasked : asked.width ≡ None → table_width (asked_frame style asked texts) ≡ taken
  width-unasked none = width-natural (ap (narrow style asked (widths_of style texts) taken) none)
