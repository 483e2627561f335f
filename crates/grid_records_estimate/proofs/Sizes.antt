-- The sizes of a table that was read.
use Rattle.std.proofs.Common.{◌≡◌, ℕ, zero, suc, ◌+◌, ◌-◌, ◌^◌, ◌==◌, ◌<◌, ◌≤◌, inl, inr, Bool, true, false, List, [], ◌∷◌, map, length, take, replicate, get_or, sum, refl, ap, sym, ◌∙◌, subst, arith, length-append}
use Rattle.std.specs.List.{range_with_len}
use Rattle.std.proofs.lemmas.Bool.Decides.{nat_tests}
use Rattle.std.proofs.lemmas.List.{get_or-map, length-map, length-replicate, length-take}
use Rattle.std.proofs.lemmas.List.FromFn.{length-map-range_with_len}
use Rattle.std.proofs.lemmas.List.Sums.{get_or-le-sum_by}
use Rattle.grid_config_values.specs.declared.fault.Fault.{Fault}
use Rattle.grid_config_values.specs.declared.borders.Borders.{Borders}
use Rattle.grid_config_values.specs.declared.sides.Indent.{Indent}
use Rattle.grid_config_values.specs.declared.sides.Sides.{Sides}
use Rattle.grid_config.specs.Glyphs.{Between, boundary_count, has_column_boundary, has_row_boundary}
use Rattle.grid_records_traits.specs.Rows.{evened, evened_row, row_at}
use Rattle.grid_records_estimate.specs.Collecting.{AreFirstBelow, Describes, PassesMax}
use Rattle.grid_records_estimate.specs.Estimates.{TrackNeeds, least_size, spanning_needs, track_sizes}
use Rattle.grid_records_estimate.specs.CollectedNeeds.{AreCollectedNeeds}
use Rattle.grid_records_estimate.specs.Sizes.{IsRefusal, height_total, table_heights, table_widths, width_total}
use Rattle.grid_records_estimate.specs.Sizing.{TableSizing, column_needs, row_needs}
use Rattle.grid_records_estimate.specs.Totals.{total}
use Rattle.grid_records_estimate.specs.declared.collected.CollectedNeeds.{CollectedNeeds}
use Rattle.grid_records_estimate.proofs.Finishes.{not_crossed}
use Rattle.grid_records_estimate.proofs.Singles.{length-fold}
use Rattle.grid_records_estimate.proofs.Tables.{columns-below, describes-columns, describes-rows, rows-below}

length-evened_row : (n : ℕ) (row : List (List ℕ)) → length (evened_row n row) ≡ n
length-evened_row n row =
    let front = length-take n row in
    let behind = length-replicate (n - length row) (let none : List ℕ = [] in none) in
    omega (arith, length-append (take n row) (replicate (n - length row) []), front, behind)

even : (n : ℕ) (rows : List (List (List ℕ))) (i : ℕ) → i < length (evened n rows) → length (row_at (evened n rows) i) ≡ n
even n rows i below =
    let inside : i < length rows = omega (arith, length-map rows (evened_row n)) in
    ap length (get_or-map (evened_row n) rows i [] [] inside) ∙ length-evened_row n (get_or rows i [])

module _ (sizing : TableSizing) (columns : ℕ) (rows : List (List (List ℕ))) (collected : CollectedNeeds) (is : AreCollectedNeeds sizing columns rows collected) where
  pub first-columns : AreFirstBelow collected.columns collected.widths.others
  first-columns =
      let P : ℕ → Type 0 = λ k. AreFirstBelow k collected.widths.others in
      subst P (sym is.columns_are) (columns-below columns (evened columns rows) (even columns rows) sizing collected.widths collected.heights is.read)

  pub first-rows : AreFirstBelow collected.rows collected.heights.others
  first-rows =
      let P : ℕ → Type 0 = λ k. AreFirstBelow k collected.heights.others in
      subst P (length-map rows (evened_row columns) ∙ sym is.rows_are) (rows-below columns (evened columns rows) (even columns rows) sizing collected.widths collected.heights is.read)

  -- what holds of the sizes that the collected needs call for
  pub by_columns : (P : List ℕ → Type 0) (borders : Borders ℕ) (between : Bool) → borders ≡ sizing.borders → between ≡ has_column_boundary borders Between
      → ((table : TrackNeeds) → Describes table collected.columns collected.rows between collected.widths → P (track_sizes table)) → P (table_widths sizing columns rows)
  unfolding table_widths
  by_columns P borders between same b sizes =
      let D : ℕ → ℕ → Bool → Type 0 = λ m n k. Describes (column_needs sizing columns (evened columns rows)) m n k collected.widths in
      sizes (column_needs sizing columns (evened columns rows))
      (subst (λ k. D collected.columns collected.rows k) (sym (b ∙ ap (λ glyphs. has_column_boundary glyphs Between) same))
      (subst (λ n. D collected.columns n (has_column_boundary sizing.borders Between)) (length-map rows (evened_row columns) ∙ sym is.rows_are)
      (subst (λ m. D m (length (evened columns rows)) (has_column_boundary sizing.borders Between)) (sym is.columns_are)
      (describes-columns columns (evened columns rows) (even columns rows) sizing collected.widths collected.heights is.read))))

  pub by_rows : (P : List ℕ → Type 0) (borders : Borders ℕ) (between : Bool) → borders ≡ sizing.borders → between ≡ has_row_boundary borders Between
      → ((table : TrackNeeds) → Describes table collected.rows collected.columns between collected.heights → P (track_sizes table)) → P (table_heights sizing columns rows)
  unfolding table_heights
  by_rows P borders between same b sizes =
      let D : ℕ → ℕ → Bool → Type 0 = λ m n k. Describes (row_needs sizing columns (evened columns rows)) m n k collected.heights in
      sizes (row_needs sizing columns (evened columns rows))
      (subst (λ k. D collected.rows collected.columns k) (sym (b ∙ ap (λ glyphs. has_row_boundary glyphs Between) same))
      (subst (λ n. D collected.rows n (has_row_boundary sizing.borders Between)) (sym is.columns_are)
      (subst (λ m. D m columns (has_row_boundary sizing.borders Between)) (length-map rows (evened_row columns) ∙ sym is.rows_are)
      (describes-rows columns (evened columns rows) (even columns rows) sizing collected.widths collected.heights is.read))))

-- ---- refusals

pub IsRefusal-implies : (fault : Fault) (P Q : Type 0) → (P → Q) → IsRefusal fault P → IsRefusal fault Q
IsRefusal-implies fault P Q f (inl memory) = inl memory
IsRefusal-implies fault P Q f (inr range) = inr (range.0, f range.1)

-- ---- totals

pub total-passes : (sizes : List ℕ) (boundaries before behind : ℕ) → PassesMax sizes → 2 ^ 64 ≤ total sizes boundaries before behind
total-passes [] boundaries before behind p = let high : 2 ^ 64 ≤ 0 = p.1 in absurd (omega arith)
total-passes (size ∷ sizes) boundaries before behind p = step (inside (size ∷ sizes) p.0 p.1) where
  inside : (xs : List ℕ) (k : ℕ) → 2 ^ 64 ≤ get_or xs k 0 → k < length xs
  inside [] k h = absurd (omega arith)
  inside (x ∷ xs) zero h = omega arith
  inside (x ∷ xs) (suc k) h = let rest = inside xs k h in omega arith

  step : p.0 < length (size ∷ sizes) → 2 ^ 64 ≤ sum (size ∷ sizes) + boundaries + before + behind
  step below =
      let one = get_or-le-sum_by (λ x. x) (size ∷ sizes) p.0 0 below in
      let high : 2 ^ 64 ≤ get_or (size ∷ sizes) p.0 0 = p.1 in
      omega arith

length-track_sizes : (table : TrackNeeds) → (table.cross_tracks ≡ 0 → ⊥) → length (track_sizes table) ≡ table.tracks
unfolding track_sizes
length-track_sizes table some =
    let test : (table.cross_tracks == 0) ≡ false = grind (arith, nat_tests) in
    rw test (length-fold table.has_boundary (map (least_size table) (range_with_len 0 table.tracks)) (spanning_needs table) ∙ length-map-range_with_len (least_size table) 0 table.tracks)

-- where there are sizes there is one of each track
total-length : (table : TrackNeeds) (count : ℕ → ℕ) (before behind : ℕ) → total (track_sizes table) (count (length (track_sizes table))) before behind ≡ total (track_sizes table) (count table.tracks) before behind
total-length table count before behind = step (table.cross_tracks == 0) refl where
  step : (b : Bool) → (table.cross_tracks == 0) ≡ b → total (track_sizes table) (count (length (track_sizes table))) before behind ≡ total (track_sizes table) (count table.tracks) before behind
  step true e =
      let none : table.cross_tracks ≡ 0 = grind (arith, nat_tests) in
      ap (λ xs. total xs (count (length xs)) before behind) (not_crossed table none) ∙ sym (ap (λ xs. total xs (count table.tracks) before behind) (not_crossed table none))
  step false e =
      let some : table.cross_tracks ≡ 0 → ⊥ = λ z. grind (arith, nat_tests) in
      ap (λ n. total (track_sizes table) (count n) before behind) (length-track_sizes table some)

-- what holds of the total that was made
module _ (P : ℕ → Type 0) (sizing : TableSizing) (columns : ℕ) (rows : List (List (List ℕ))) {found sizes : List ℕ} {borders : Borders ℕ} {margin : Sides Indent} {counted len : ℕ}
    (same : found ≡ sizes) (long : len ≡ length sizes) (glyphs : borders ≡ sizing.borders) (round : margin ≡ sizing.margin) where
  pub total-widths : sizes ≡ table_widths sizing columns rows → counted ≡ boundary_count (has_column_boundary borders) len
      → P (total found counted margin.left.size margin.right.size) → P (width_total sizing columns rows)
  unfolding table_widths
  total-widths are number =
      let count = boundary_count (has_column_boundary sizing.borders) in
      subst P (rw (number, glyphs, long, same, are, round) (total-length (column_needs sizing columns (evened columns rows)) count sizing.margin.left.size sizing.margin.right.size))

  pub total-heights : sizes ≡ table_heights sizing columns rows → counted ≡ boundary_count (has_row_boundary borders) len
      → P (total found counted margin.top.size margin.bottom.size) → P (height_total sizing columns rows)
  unfolding table_heights
  total-heights are number =
      let count = boundary_count (has_row_boundary sizing.borders) in
      subst P (rw (number, glyphs, long, same, are, round) (total-length (row_needs sizing columns (evened columns rows)) count sizing.margin.top.size sizing.margin.bottom.size
      ∙ ap (λ n. total (table_heights sizing columns rows) (count n) sizing.margin.top.size sizing.margin.bottom.size) (length-map rows (evened_row columns))))
