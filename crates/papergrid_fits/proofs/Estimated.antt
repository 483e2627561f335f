-- Estimated sizes are enough for each visible cell.
use Rattle.std.proofs.Common.{◌≡◌, ◌&&◌, ℕ, zero, suc, ◌+◌, ◌-◌, ◌<◌, ◌≤◌, min, nat_lt, Bool, true, false, List, [], ◌∷◌, ◌++◌, None, length, map, take, drop, replicate, slice_index, slice_index_or, refl, ap, sym, ◌∙◌, arith, add-one}
use Rattle.std.specs.List.{filter, find, range_with_len, sum}
use Rattle.std.proofs.lemmas.Bool.Decides.{nat_tests}
use Rattle.std.proofs.lemmas.List.FromFn.{length-map-range_with_len}
use Rattle.grid_config_values.specs.Entities.{table_positions}
use Rattle.grid_config_values.specs.Glyphs.{boundary_kind, has_column_boundary}
use Rattle.grid_config_values.specs.Order.{same_place}
use Rattle.grid_config_values.specs.declared.position.Position.{Position}
use Rattle.grid_config_values.specs.Spans.Spans.{AreGood, ArePositive, extent_at}
use Rattle.grid_config_values.specs.Spans.Owners.{owner}
use Rattle.grid_config_values.proofs.SpansLemmas.Owners.{own_decides}
use Rattle.grid_config.specs.Looks.{look_of}
use Rattle.grid_config.specs.Settings.{Settings}
use Rattle.grid_records_traits.specs.Rows.{evened, evened_row, text_at}
use Rattle.grid_records_estimate.specs.Room.{room_in_tracks}
use Rattle.grid_records_estimate.specs.Sizes.{table_widths}
use Rattle.grid_records_estimate.specs.Sizing.{column_needs, is_visible, sizing_of, width_need}
use Rattle.grid_records_estimate.proofs.Lengths.{length-table_widths, length-evened}
use Rattle.grid_records_estimate.proofs.Rooms.{LeaveRoom-widths}
use Rattle.grid_records_estimate.proofs.Visibility.{is_visible-decides}
use Rattle.papergrid_picture.specs.Fitting.{first_too_wide, is_too_wide, need}
use Rattle.papergrid_picture.specs.Frame.{block_width}
use Rattle.papergrid_picture.specs.Picture.{at}
use Rattle.papergrid_picture.proofs.ByNumber.{by_number}
use Rattle.papergrid_fits.specs.Tables.{sized_frame}
use Rattle.papergrid_fits.proofs.First.{columns-inside, none-in_row-more, none-more}
use Rattle.papergrid_fits.proofs.Ranges.{first-is}

-- ---- texts of evened rows

none_at : (k : ℕ) → slice_index_or {A = List ℕ} [] k [] ≡ []
none_at zero = refl
none_at (suc k) = refl

empty_at : (m k : ℕ) → slice_index_or {A = List ℕ} (replicate m []) k [] ≡ []
empty_at zero k = none_at k
empty_at (suc m) zero = refl
empty_at (suc m) (suc k) = empty_at m k

text-in_row : (n : ℕ) (row : List (List ℕ)) (k : ℕ) → k < n → slice_index_or (evened_row n row) k [] ≡ slice_index_or row k []
text-in_row zero row k below = absurd (omega arith)
text-in_row (suc n) [] k below = empty_at (suc n - 0) k ∙ sym (none_at k)
text-in_row (suc n) (text ∷ row) zero below = refl
text-in_row (suc n) (text ∷ row) (suc k) below =
    let less : k < n = omega arith in
    let same : suc n - suc (length row) ≡ n - length row = omega arith in
    ap (λ m. slice_index_or (take n row ++ replicate m []) k []) same ∙ text-in_row n row k less

pub text_at-evened : (n : ℕ) (rows : List (List (List ℕ))) (i k : ℕ) → k < n → text_at (evened n rows) (at i k) ≡ text_at rows (at i k)
text_at-evened n [] zero k below = refl
text_at-evened n [] (suc i) k below = refl
text_at-evened n (row ∷ rows) zero k below = text-in_row n row k below
text_at-evened n (row ∷ rows) (suc i) k below = text_at-evened n rows i k below

-- ---- widths of rectangles

module _ (settings : Settings) (columns : ℕ) (rows : List (List (List ℕ))) (height : ℕ → ℕ) (positive : ArePositive settings.spans) (good : AreGood settings.spans (length rows) columns) where
  abbrev widths : List ℕ
  widths = table_widths (sizing_of settings) columns rows

  abbrev test : Position → Bool
  test = is_too_wide (sized_frame settings (slice_index widths) height columns (length rows)) rows

  abbrev strip : List ℕ → (ℕ → Bool) → ℕ → ℕ → ℕ
  strip sizes has first n = sum (take n (drop first sizes)) + length (filter has (range_with_len (first + 1) (n - 1)))

  abbrev has : ℕ → ℕ → Bool
  has n j = has_column_boundary settings.borders (boundary_kind j n)

  -- what the tracks leave for a cell is the width of its rectangle
  rectangle : (i j : ℕ) → i < length rows → j < columns
      → room_in_tracks (column_needs (sizing_of settings) columns (evened columns rows)) widths j i ≡ block_width (sized_frame settings (slice_index widths) height columns (length rows)) (at i j)
  rectangle i j in_rows in_columns =
      let span : ℕ = (extent_at settings.spans (at i j)).columns in
      let inside : j + span ≤ columns = columns-inside settings.spans (length rows) columns (at i j) good in_rows in_columns in
      let whole : min span (columns - j) ≡ span = omega (arith, inside) in
      let some : 0 < length rows = omega (arith, in_rows) in
      let listed : widths ≡ map (slice_index widths) (range_with_len 0 columns) = sym (by_number widths columns (length-table_widths (sizing_of settings) columns rows some)) in
      ap (strip widths (has columns) j) whole ∙ ap (λ sizes. strip sizes (has columns) j span) listed
      ∙ ap (λ n. strip (map (slice_index widths) (range_with_len 0 columns)) (has n) j span) (sym (length-map-range_with_len (slice_index widths) 0 columns))

  asked : (i j : ℕ) → j < columns → width_need (sizing_of settings) (at i j) (text_at (evened columns rows) (at i j)) ≡ need (look_of settings) rows (at i j)
  asked i j below = ap (width_need (sizing_of settings) (at i j)) (text_at-evened columns rows i j below)

  fits : (i j : ℕ) → i < length rows → j < columns → (b : Bool) → same_place (owner (extent_at settings.spans) (at i j)) (at i j) ≡ b → test (at i j) ≡ false
  fits i j in_rows in_columns false off = ap (λ b. b && nat_lt (block_width (sized_frame settings (slice_index widths) height columns (length rows)) (at i j)) (need (look_of settings) rows (at i j))) off
  fits i j in_rows in_columns true on =
      let seen = (own_decides settings.spans (at i j)).0 on in
      let shown : is_visible settings.spans (at i j) ≡ true = sym (is_visible-decides settings.spans (at i j) true ((λ _. seen), (λ _. refl))) in
      let cross_track : i < length (evened columns rows) = omega (arith, in_rows, length-evened columns rows) in
      let left = LeaveRoom-widths (sizing_of settings) columns rows j i in_columns cross_track shown (positive (at i j)).1 in
      let enough : need (look_of settings) rows (at i j) ≤ block_width (sized_frame settings (slice_index widths) height columns (length rows)) (at i j) = omega (arith, left, asked i j in_columns, rectangle i j in_rows in_columns) in
      let within : nat_lt (block_width (sized_frame settings (slice_index widths) height columns (length rows)) (at i j)) (need (look_of settings) rows (at i j)) ≡ false = grind (arith, nat_tests, enough) in
      ap (λ b. b && nat_lt (block_width (sized_frame settings (slice_index widths) height columns (length rows)) (at i j)) (need (look_of settings) rows (at i j))) on ∙ within

  none-in_row : (i n : ℕ) → i < length rows → n ≤ columns → find test (map (at i) (range_with_len 0 n)) ≡ None
  none-in_row i zero in_rows h = refl
  none-in_row i (suc n) in_rows h =
      let less : n ≤ columns = omega arith in
      let below : n < columns = omega arith in
      ap (λ m. find test (map (at i) (range_with_len 0 m))) (sym (add-one n)) ∙ none-in_row-more test i n (none-in_row i n in_rows less) (fits i n in_rows below (same_place (owner (extent_at settings.spans) (at i n)) (at i n)) refl)

  none-in_rows : (n : ℕ) → n ≤ length rows → find test (table_positions n columns) ≡ None
  none-in_rows zero h = refl
  none-in_rows (suc n) h =
      let less : n ≤ length rows = omega arith in
      let below : n < length rows = omega arith in
      let all : columns ≤ columns = omega arith in
      ap (λ m. find test (table_positions m columns)) (sym (add-one n)) ∙ none-more test columns n (none-in_rows n less) (none-in_row n columns below all)

  pub none-too_wide : first_too_wide (sized_frame settings (slice_index (table_widths (sizing_of settings) columns rows)) height columns (length rows)) rows ≡ None
  none-too_wide =
      let all : length rows ≤ length rows = omega arith in
      sym (first-is settings (slice_index widths) height columns (length rows) rows) ∙ none-in_rows (length rows) all
