-- What a cell takes of a table's columns.
use Rattle.std.proofs.Common.{◌≡◌, ℕ, zero, suc, ◌+◌, ◌-◌, ◌<◌, ◌≤◌, Bool, true, false, List, [], ◌∷◌, length, sum, take, drop, ap, sym, ◌∙◌, arith, if◌then◌else◌}
use Rattle.std.specs.List.{filter, range_with_len}
use Rattle.std.proofs.lemmas.Bool.Decides.{nat_tests}
use Rattle.std.proofs.lemmas.List.Sums.{sum_by-take-drop, sum_by-take-le}
use Rattle.grid_config_values.proofs.Boundaries.{counted}
use Rattle.grid_config_values.specs.Glyphs.{First, Between, Last, boundary_count, boundary_kind, has_column_boundary}
use Rattle.grid_config.specs.Looks.{Look}
use Rattle.grid_records_estimate.proofs.Meets.{boundaries_within-is}
use Rattle.tabled_width.specs.WholeTables.Rooms.{boundaries_between}
use Rattle.tabled_width.specs.WholeTables.Widths.{width_with_columns}

-- ---- boundaries

between-kind : (j columns : ℕ) → 0 < j → j < columns → boundary_kind j columns ≡ Between
between-kind j columns low high = grind (arith, nat_tests)

module _ (look : Look) (columns first count : ℕ) where
  abbrev there : Bool
  there = has_column_boundary look.borders Between

  pub no_boundaries : count ≤ 1 → boundaries_between look columns first count ≡ 0
  no_boundaries few =
      let none : count - 1 ≡ 0 = omega arith in
      ap (λ n. length (filter (λ j. has_column_boundary look.borders (boundary_kind j columns)) (range_with_len (first + 1) n))) none

  pub all_or_none : 1 < count → count ≤ columns - first → boundaries_between look columns first count ≡ (if there then count - 1 else 0)
  all_or_none several inside =
      boundaries_within-is (λ j. has_column_boundary look.borders (boundary_kind j columns)) columns there
      (record { length = count; first = first; cross_track = 0; size = 0 })
      (λ j low high. ap (has_column_boundary look.borders) (between-kind j columns low high)) (omega arith) (omega arith)

  -- where one is there, all are
  pub as_one : 1 < count → count ≤ columns - first → (b : Bool) → has_column_boundary look.borders (boundary_kind (first + 1) columns) ≡ b →
      boundaries_between look columns first count ≡ (if b then count - 1 else 0)
  as_one several inside b is =
      all_or_none several inside
      ∙ ap (λ b. if b then count - 1 else 0) (sym (ap (has_column_boundary look.borders) (between-kind (first + 1) columns (omega arith) (omega arith))) ∙ is)

-- those between some columns are among all
some_of : (between first last : Bool) (n count : ℕ) → count ≤ n →
    (if between then count - 1 else 0) ≤ (if first then 1 else 0) + (if between then n - 1 else 0) + (if last then 1 else 0)
some_of true first last n count le = omega arith
some_of false first last n count le = omega arith

boundaries-below : (look : Look) (columns first count : ℕ) → 0 < columns → count ≤ columns - first →
    boundaries_between look columns first count ≤ boundary_count (has_column_boundary look.borders) columns
boundaries-below look columns first zero some inside = omega (arith, no_boundaries look columns first 0 (omega arith))
boundaries-below look columns first (suc zero) some inside = omega (arith, no_boundaries look columns first 1 (omega arith))
boundaries-below look columns first (suc (suc n)) some inside =
    let is = has_column_boundary look.borders in
    omega (
      arith,
      all_or_none look columns first (suc (suc n)) (omega arith) inside,
      counted is columns some,
      some_of (is Between) (is First) (is Last) columns (suc (suc n)) (omega arith),
    )

-- ---- widths

pub part-below : (widths : List ℕ) (first count : ℕ) → sum (take count (drop first widths)) ≤ sum widths
part-below widths first count =
    let taken : sum (take count (drop first widths)) ≤ sum (drop first widths) = sum_by-take-le (λ x. x) (drop first widths) count in
    let parts : sum (take first widths) + sum (drop first widths) ≡ sum widths = sum_by-take-drop (λ x. x) widths first in
    omega (arith, taken, parts)

pub cell-below : (look : Look) (widths : List ℕ) (first count : ℕ) → count ≤ length widths - first →
    sum (take count (drop first widths)) + boundaries_between look (length widths) first count ≤ width_with_columns look widths
cell-below look [] first count inside =
    let few : count ≤ 1 = omega arith in
    omega (arith, part-below [] first count, no_boundaries look 0 first count few)
cell-below look (w ∷ ws) first count inside =
    let some : 0 < length (w ∷ ws) = omega arith in
    omega (arith, part-below (w ∷ ws) first count, boundaries-below look (length (w ∷ ws)) first count some inside)
