-- What a table takes as a whole, by its settings and sizes.
use Rattle.std.proofs.Common.{◌≡◌, ◌==◌, ◌||◌, ◌+◌, ◌<◌, ◌≤◌, ◌^◌, ℕ, Bool, true, false, inl, inr, List, None, Option, Some, SomeIff, ap, sym, subst, refl, cond, ◌∙◌, arith, length, slice_index, unwrap_or}
use Rattle.std.proofs.lemmas.Bool.{cases_lt}
use Rattle.std.proofs.lemmas.Bool.Decides.{nat_tests}
use Rattle.std.proofs.lemmas.List.FromFn.{length-map-range_with_len}
use Rattle.ansi_scan.proofs.Comparing.{not_zero}
use Rattle.grid_config.specs.Colors.{Color}
use Rattle.grid_config_values.specs.declared.fault.Fault.{Fault}
use Rattle.grid_config_values.specs.declared.position.Position.{Position}
use Rattle.grid_config.specs.Looks.{look_of}
use Rattle.grid_config.specs.Settings.{Settings}
use Rattle.grid_records_estimate.specs.Kept.{least_sizes}
use Rattle.grid_records_estimate.specs.Sizes.{IsRefusal, table_heights, table_widths}
use Rattle.grid_records_estimate.specs.Sizing.{sizing_of}
use Rattle.papergrid_fits.proofs.Ranges.{line_count-is, table_width-is}
use Rattle.papergrid_fits.specs.Tables.{column_tracks, row_tracks}
use Rattle.papergrid_picture.specs.Frame.{column_count as columns_of_frame, full_line_width, row_count, track_at}
use Rattle.tabled_size.specs.Dimension.Sizes.{given_size}
use Rattle.tabled_size.specs.Dimension.Stored.{CompletedPass, Stored, completed, stored_sizes}
use Rattle.tabled_steps.proofs.Estimating.{heights_by_look, widths_by_look}
use Rattle.tabled_steps.specs.States.{State, column_count, state_with}
use Rattle.tabled.specs.Printing.{drawn_frame, drawn_sizes}
use Rattle.tabled.specs.Totals.{drawn_height, drawn_width}
use Rattle.tabled.proofs.Fitting.{heights_total, widths_total}

-- what a result says of a total
pub some_total : (P : Type 0) (v : ℕ) (result : Option ℕ) (n : ℕ) → result ≡ Some n → SomeIff result P v → n ≡ v
some_total P v result n is told = (subst (λ (r : Option ℕ). SomeIff r P v) is told).1

pub none_total : (v : ℕ) (result : Option ℕ) → result ≡ None → SomeIff result (v < 2 ^ 64) v → 2 ^ 64 ≤ v
none_total v result is told =
    let past : ¬ (v < 2 ^ 64) = subst (λ (r : Option ℕ). SomeIff r (v < 2 ^ 64) v) is told in
    elim (cases_lt v (2 ^ 64)) as (λ _. 2 ^ 64 ≤ v) [
      | inl less ↦ absurd (past (omega (arith, less)))
      | inr more ↦ omega (arith, more)
    ]

neither : (a b : Bool) → (a || b) ≡ false → (a ≡ false) × (b ≡ false)
neither true b is = absurd (cc is)
neither false b is = (refl, is)

either_none : (a b : Bool) (whole : ℕ) → (a || b) ≡ true → cond a 0 (cond b 0 whole) ≡ 0
either_none true b whole is = refl
either_none false true whole is = refl
either_none false false whole is = absurd (cc is)

-- a table that has rows and columns
pub some_cells : (rows columns : ℕ) → (rows == 0 || columns == 0) ≡ false → (0 < rows) × (0 < columns)
some_cells rows columns both =
    let rows_not : (rows == 0) ≡ false = (neither (rows == 0) (columns == 0) both).0 in
    let columns_not : (columns == 0) ≡ false = (neither (rows == 0) (columns == 0) both).1 in
    (grind (arith, nat_tests, rows_not), grind (arith, nat_tests, columns_not))

module _ (settings : Settings) (rows : List (List (List ℕ))) (colors : Position → Option Color) (stored : Stored) where
  abbrev state : State
  state = state_with rows (look_of settings) colors stored

  abbrev columns : ℕ
  columns = column_count rows

  abbrev width : ℕ → ℕ
  width = given_size (stored_sizes (drawn_sizes state).widths)

  abbrev height : ℕ → ℕ
  height = given_size (stored_sizes (drawn_sizes state).heights)

  rows-are : row_count (drawn_frame state) ≡ length rows
  rows-are = length-map-range_with_len height 0 (length rows)

  columns-are : columns_of_frame (drawn_frame state) ≡ columns
  columns-are = length-map-range_with_len width 0 columns

  -- ---- without rows or columns

  pub no_width : (length rows == 0 || columns == 0) ≡ true → drawn_width state ≡ 0
  no_width none =
      ap (λ (b : Bool). cond b 0 (full_line_width (drawn_frame state)))
      (ap (λ n. n == 0 || (columns_of_frame (drawn_frame state) == 0)) rows-are ∙ ap (λ n. length rows == 0 || (n == 0)) columns-are ∙ none)

  pub no_height : (length rows == 0 || columns == 0) ≡ true → drawn_height state ≡ 0
  no_height none =
      let whole : ℕ = track_at (drawn_frame state).rows (row_count (drawn_frame state)) + settings.margin.bottom.size in
      ap (λ n. cond (n == 0) 0 (cond (columns_of_frame (drawn_frame state) == 0) 0 whole)) rows-are
      ∙ ap (λ n. cond (length rows == 0) 0 (cond (n == 0) 0 whole)) columns-are
      ∙ either_none (length rows == 0) (columns == 0) whole none

  -- ---- with both

  pub whole_width : 0 < length rows → 0 < columns → drawn_width state ≡ full_line_width (drawn_frame state)
  whole_width some_rows some_columns =
      let whole : ℕ = full_line_width (drawn_frame state) in
      ap (λ n. cond (n == 0 || (columns_of_frame (drawn_frame state) == 0)) 0 whole) rows-are
      ∙ ap (λ n. cond (length rows == 0 || (n == 0)) 0 whole) columns-are
      ∙ ap (λ b. cond (b || (columns == 0)) 0 whole) (not_zero (length rows) some_rows)
      ∙ ap (λ b. cond b 0 whole) (not_zero columns some_columns)

  -- ---- the same by other names

  module _ (given : Settings) (n : ℕ) (same : given ≡ settings) (counted : n ≡ columns) where
    pub width_here : (kept : Option (List ℕ)) → kept ≡ (drawn_sizes state).widths → 0 < length rows → 0 < n →
        track_at (column_tracks given (given_size (stored_sizes kept)) n) n + given.margin.right.size ≡ drawn_width state
    width_here kept is some_rows some_columns =
        ap (λ (given : Settings). track_at (column_tracks given (given_size (stored_sizes kept)) n) n + given.margin.right.size) same
        ∙ ap (λ (kept : Option (List ℕ)). track_at (column_tracks settings (given_size (stored_sizes kept)) n) n + settings.margin.right.size) is
        ∙ ap (λ n. track_at (column_tracks settings width n) n + settings.margin.right.size) counted
        ∙ sym (table_width-is settings width height columns (length rows) some_rows (omega (arith, some_columns, counted)))

    pub height_here : (m : ℕ) (kept : Option (List ℕ)) → kept ≡ (drawn_sizes state).heights → m ≡ length rows → 0 < length rows → 0 < n →
        track_at (row_tracks given (given_size (stored_sizes kept)) m) m + given.margin.bottom.size ≡ drawn_height state
    height_here m kept is many some_rows some_columns =
        ap (λ (given : Settings). track_at (row_tracks given (given_size (stored_sizes kept)) m) m + given.margin.bottom.size) same
        ∙ ap (λ (kept : Option (List ℕ)). track_at (row_tracks settings (given_size (stored_sizes kept)) m) m + settings.margin.bottom.size) is
        ∙ ap (λ m. track_at (row_tracks settings height m) m + settings.margin.bottom.size) many
        ∙ sym (line_count-is settings width height columns (length rows) some_rows (omega (arith, some_columns, counted)))

    -- ---- of what is kept widths or heights are taken, and the others are not estimated

    module _ (kept now : Stored) (empty : List ℕ) where
      pub widths_here : kept ≡ stored → now ≡ record kept { heights = Some empty } → (completed (least_sizes (sizing_of given) n rows) now).widths ≡ (drawn_sizes state).widths
      widths_here copied set =
          ap (λ (now : Stored). Some (unwrap_or now.widths (table_widths (sizing_of given) n rows))) set
          ∙ ap (λ (kept : Stored). Some (unwrap_or kept.widths (table_widths (sizing_of given) n rows))) copied
          ∙ ap (λ (given : Settings). Some (unwrap_or stored.widths (table_widths (sizing_of given) n rows))) same
          ∙ ap (λ n. Some (unwrap_or stored.widths (table_widths (sizing_of settings) n rows))) counted
          ∙ ap (λ widths. Some (unwrap_or stored.widths widths)) (widths_by_look settings columns rows)

      pub widths_refused_for : (P : Type 0) → (stored.widths ≡ None → (t : ℕ) → 2 ^ 64 ≤ slice_index (table_widths (sizing_of settings) columns rows) t → P)
          → kept ≡ stored → now ≡ record kept { heights = Some empty } → (fault : Fault) → IsRefusal fault (CompletedPass (least_sizes (sizing_of given) n rows) now) → IsRefusal fault P
      widths_refused_for P passes_so copied set fault refused =
          let as_stored : CompletedPass (least_sizes (sizing_of given) n rows) now → CompletedPass (least_sizes (sizing_of settings) columns rows) (record stored { heights = Some empty }) = λ passes.
          subst (λ (n : ℕ). CompletedPass (least_sizes (sizing_of settings) n rows) (record stored { heights = Some empty })) counted
          (subst (λ (given : Settings). CompletedPass (least_sizes (sizing_of given) n rows) (record stored { heights = Some empty })) same
          (subst (λ (kept : Stored). CompletedPass (least_sizes (sizing_of given) n rows) (record kept { heights = Some empty })) copied
          (subst (λ (now : Stored). CompletedPass (least_sizes (sizing_of given) n rows) now) set passes))) in
          elim refused as (λ _. IsRefusal fault P) [
            | inl memory ↦ inl memory
            | inr range ↦ inr (
              range.0,
              elim (as_stored range.1) as (λ _. P) [
                | inl widths ↦ passes_so widths.0 widths.1.0 widths.1.1
                | inr heights ↦ absurd (cc heights.0)
              ],
            )
          ]

      pub widths_refused : kept ≡ stored → now ≡ record kept { heights = Some empty } → (fault : Fault) → IsRefusal fault (CompletedPass (least_sizes (sizing_of given) n rows) now) → IsRefusal fault (2 ^ 64 ≤ drawn_width state)
      widths_refused = widths_refused_for (2 ^ 64 ≤ drawn_width state) (widths_total settings rows colors stored height)

      pub heights_here : kept ≡ stored → now ≡ record kept { widths = Some empty } → (completed (least_sizes (sizing_of given) n rows) now).heights ≡ (drawn_sizes state).heights
      heights_here copied set =
          ap (λ (now : Stored). Some (unwrap_or now.heights (table_heights (sizing_of given) n rows))) set
          ∙ ap (λ (kept : Stored). Some (unwrap_or kept.heights (table_heights (sizing_of given) n rows))) copied
          ∙ ap (λ (given : Settings). Some (unwrap_or stored.heights (table_heights (sizing_of given) n rows))) same
          ∙ ap (λ n. Some (unwrap_or stored.heights (table_heights (sizing_of settings) n rows))) counted
          ∙ ap (λ heights. Some (unwrap_or stored.heights heights)) (heights_by_look settings columns rows)

      pub heights_refused_for : (P : Type 0) → (stored.heights ≡ None → (t : ℕ) → 2 ^ 64 ≤ slice_index (table_heights (sizing_of settings) columns rows) t → P)
          → kept ≡ stored → now ≡ record kept { widths = Some empty } → (fault : Fault) → IsRefusal fault (CompletedPass (least_sizes (sizing_of given) n rows) now) → IsRefusal fault P
      heights_refused_for P passes_so copied set fault refused =
          let as_stored : CompletedPass (least_sizes (sizing_of given) n rows) now → CompletedPass (least_sizes (sizing_of settings) columns rows) (record stored { widths = Some empty }) = λ passes.
          subst (λ (n : ℕ). CompletedPass (least_sizes (sizing_of settings) n rows) (record stored { widths = Some empty })) counted
          (subst (λ (given : Settings). CompletedPass (least_sizes (sizing_of given) n rows) (record stored { widths = Some empty })) same
          (subst (λ (kept : Stored). CompletedPass (least_sizes (sizing_of given) n rows) (record kept { widths = Some empty })) copied
          (subst (λ (now : Stored). CompletedPass (least_sizes (sizing_of given) n rows) now) set passes))) in
          elim refused as (λ _. IsRefusal fault P) [
            | inl memory ↦ inl memory
            | inr range ↦ inr (
              range.0,
              elim (as_stored range.1) as (λ _. P) [
                | inl widths ↦ absurd (cc widths.0)
                | inr heights ↦ passes_so heights.0 heights.1.0 heights.1.1
              ],
            )
          ]

      pub heights_refused : kept ≡ stored → now ≡ record kept { widths = Some empty } → (fault : Fault) → IsRefusal fault (CompletedPass (least_sizes (sizing_of given) n rows) now) → IsRefusal fault (2 ^ 64 ≤ drawn_height state)
      heights_refused = heights_refused_for (2 ^ 64 ≤ drawn_height state) (heights_total settings rows colors stored width)
