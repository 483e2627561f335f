-- The last span that begins in a row before a column, and the next row in which one begins.
use Rattle.std.proofs.Common.{◌≡◌, ◌+◌, ◌≤◌, ◌==◌, ℕ, true, false, List, [], ◌∷◌, ◌++◌, map, None, Some, refl, sym, ap, ◌∙◌, nat_lt, arith}
use Rattle.std.proofs.lemmas.Bool.Decides.{nat_tests}
use Rattle.std.specs.BTreeMap.{BTreeMap, get}
use Rattle.std.specs.BTreeMap.Range.{IsInRange, IsRangeOf}
use Rattle.std.specs.List.{find}
use Rattle.std.specs.List.Sorted.{IsStrictlySortedBy}
use Rattle.std.specs.Option.{IsSome}
use Rattle.std.specs.Ordering.{is_le, is_lt}
use Rattle.std.specs.declared.ops.Bound.TheVariants.{Excluded, Unbounded}
use Rattle.grid_config_values.specs.declared.position.Position.{Position}
use Rattle.grid_config_values.specs.Order.{position_cmp}
use Rattle.grid_config_values.specs.declared.spans.extent.Extent.{Extent}
use Rattle.grid_config_values.specs.Spans.Clear.{Has, IsClearFrom, IsClearIn, IsLastLeftOf, IsLeftOf}
use Rattle.grid_config_values.specs.Spans.Search.{begins_before, begins_from}
use Rattle.grid_config_values.proofs.SpansLemmas.Extents.{lookup_place}
use Rattle.grid_config_values.proofs.SpansLemmas.Order.{is_le_cmp, is_lt_cmp, less_cmp}
use Rattle.grid_config_values.proofs.SpansLemmas.Owners.{found_first, found_passes, none_passes}
use Rattle.grid_config_values.proofs.SpansLemmas.Visible.{any_from_lookup}

-- what is kept before a place
module _ (spans : BTreeMap Position Extent) (place : Position) (before : List (Position × Extent)) (is : IsRangeOf position_cmp Unbounded (Excluded place) spans before) where
  in_range : (p : Position) → IsLeftOf place p → IsInRange position_cmp Unbounded (Excluded place) p
  in_range p left = (tt, less_cmp p place (grind (arith, nat_tests, left.0, left.1)))

  is_some : (span : Position × Extent) → Has spans.entries span → IsSome (get position_cmp spans span.0)
  is_some span has = rw (lookup_place spans.entries span.0 ∙ has) refl

  pub none_before : before ≡ [] → IsLastLeftOf spans.entries place None
  none_before empty span has left =
      let none = is.5 empty span.0 (in_range span.0 left) in
      grind (arith, none, lookup_place spans.entries span.0, has)

  module _ (last : Position × Extent) (others : List (Position × Extent)) (ends : before ≡ others ++ last ∷ []) where
    has_last : Has spans.entries last
    has_last = sym (lookup_place spans.entries last.0) ∙ (is.3 last others ends).1

    last_before : begins_before last.0 place ≡ true
    last_before = sym (is_lt_cmp last.0 place) ∙ ap is_lt (is.3 last others ends).0.1

    none_behind : (span : Position × Extent) → Has spans.entries span → IsLeftOf place span.0 → begins_before last.0 span.0 ≡ false
    none_behind span has left = sym (is_lt_cmp last.0 span.0) ∙ is.4 last others ends span.0 (in_range span.0 left) (is_some span has)

    pub last_is : last.0.row ≡ place.row → IsLastLeftOf spans.entries place (Some last)
    last_is same = (
      has_last,
      (same, grind (arith, nat_tests, same, last_before)),
      λ span has left. grind (arith, nat_tests, same, left.0, none_behind span has left),
    )

    pub none_is : (last.0.row == place.row) ≡ false → IsLastLeftOf spans.entries place None
    none_is other span has left = grind (arith, nat_tests, other, left.0, last_before, none_behind span has left)

-- what begins in a row or after it
module _ (spans : List (Position × Extent)) (from : Position) (start : from.col ≡ 0) where
  begun_from : (span : Position × Extent) → from.row ≤ span.0.row → begins_from from span ≡ true
  begun_from span behind = is_le_cmp from span.0 ∙ grind (arith, nat_tests, start, behind)

  pub row_behind : (found : Position × Extent) → find (begins_from from) spans ≡ Some found → from.row ≤ found.0.row
  row_behind found is =
      let passes : is_le (position_cmp from found.0) ≡ true = (found_passes (λ _. Unit {0}) (begins_from from) spans found (λ k d lt. tt) is).0 in
      let order = sym (is_le_cmp from found.0) ∙ passes in
      grind (arith, nat_tests, order)

  pub first_row : IsStrictlySortedBy position_cmp (map (λ span. span.0) spans) → (found : Position × Extent) → find (begins_from from) spans ≡ Some found →
      (span : Position × Extent) → Has spans span → from.row ≤ span.0.row → found.0.row ≤ span.0.row
  first_row ordered found is span has behind =
      let order = sym (is_le_cmp found.0 span.0) ∙ found_first (begins_from from) spans found ordered is span.0 span.1 has (begun_from span behind) in
      grind (arith, nat_tests, order)

  pub no_row : find (begins_from from) spans ≡ None → (span : Position × Extent) → Has spans span → from.row ≤ span.0.row → ⊥
  no_row is span has behind =
      let some = any_from_lookup (begins_from from) spans span.0 span.1 has (begun_from span behind) in
      let none = none_passes (begins_from from) spans is in
      grind (arith, some, none)

-- a rectangle is clear in one more row, and in those after it in which no span begins
pub clear_more : (spans : List (Position × Extent)) (anchor : Position) (extent : Extent) (row next : ℕ) → IsClearFrom spans anchor extent row → IsClearIn spans anchor extent row →
    ((span : Position × Extent) → Has spans span → row + 1 ≤ span.0.row → next ≤ span.0.row) → IsClearFrom spans anchor extent next
clear_more spans anchor extent row next before here none i from to = elim (nat_lt i row) as (λ t. nat_lt i row ≡ t → IsClearIn spans anchor extent i) [
  | true ↦ λ earlier. before i from (grind (arith, nat_tests, earlier))
  | false ↦ λ later. elim (i == row) as (λ t. (i == row) ≡ t → IsClearIn spans anchor extent i) [
    | true ↦ λ same.
        let is : i ≡ row = grind (arith, nat_tests, same) in
        rw is here
    | false ↦ λ other.
        let behind : row + 1 ≤ i = grind (arith, nat_tests, later, other) in
        (None, λ span has left. absurd (omega (arith, none span has (omega (arith, behind, left.0)), left.0, to)), tt)
  ] refl
] refl
