-- Tables without spans, and tables that have a line: they have rows and columns.
use Rattle.std.proofs.Common.{◌≡◌, ◌==◌, ◌+◌, ◌<◌, ℕ, Bool, true, false, inl, inr, [], length, refl, ap, ◌∙◌, arith, if◌then◌else◌}
use Rattle.std.proofs.lemmas.Bool.{cases_lt}
use Rattle.std.proofs.lemmas.List.FromFn.{length-map-range_with_len}
use Rattle.grid_config_values.specs.Spans.Spans.{ArePositive, extent_at, single}
use Rattle.grid_config_values.specs.declared.position.Position.{Position}
use Rattle.papergrid_picture.specs.Frame.{column_count as columns_of_frame, row_count, track_at}
use Rattle.tabled_size.specs.Dimension.Sizes.{given_size}
use Rattle.tabled_size.specs.Dimension.Stored.{stored_sizes}
use Rattle.tabled_steps.specs.States.{State, column_count}
use Rattle.tabled_list.specs.Stripping.Printing.{drawn_frame, drawn_sizes}
use Rattle.tabled_list.specs.Stripping.Totals.{drawn_height}

-- ---- single cells

pub no_spans : (p : Position) → single ≡ extent_at [] p
unfolding extent_at
no_spans p = refl

pub positive-none : ArePositive []
unfolding extent_at
positive-none = λ place. (omega arith, omega arith)

-- ---- some cells

module _ (s : State) where
  abbrev high : ℕ
  high = track_at (drawn_frame s).rows (row_count (drawn_frame s)) + s.look.margin.bottom.size

  pub no-rows : length s.rows ≡ 0 → drawn_height s ≡ 0
  no-rows none =
      let rows_are : row_count (drawn_frame s) ≡ length s.rows = length-map-range_with_len (given_size (stored_sizes (drawn_sizes s).heights)) 0 (length s.rows) in
      ap (λ n. if n == 0 then 0 else if columns_of_frame (drawn_frame s) == 0 then 0 else high) (rows_are ∙ none)

  pub no-columns : column_count s.rows ≡ 0 → drawn_height s ≡ 0
  no-columns none =
      let columns_are : columns_of_frame (drawn_frame s) ≡ column_count s.rows = length-map-range_with_len (given_size (stored_sizes (drawn_sizes s).widths)) 0 (column_count s.rows) in
      ap (λ n. if row_count (drawn_frame s) == 0 then 0 else if n == 0 then 0 else high) (columns_are ∙ none) ∙ either (row_count (drawn_frame s) == 0)
    where
      either : (b : Bool) → ◌≡◌ {A = ℕ} (if b then 0 else 0) 0
      either true = refl
      either false = refl

  pub some-cells : (y : ℕ) → y < drawn_height s → (0 < length s.rows) × (0 < column_count s.rows)
  some-cells y inside =
      elim (cases_lt 0 (length s.rows)) [
        | inl some_rows ↦
            elim (cases_lt 0 (column_count s.rows)) [
              | inl some_columns ↦ (some_rows, some_columns)
              | inr none ↦ let low = no-columns (omega (arith, none)) in absurd (omega (arith, inside, low))
            ]
        | inr none ↦ let low = no-rows (omega (arith, none)) in absurd (omega (arith, inside, low))
      ]
