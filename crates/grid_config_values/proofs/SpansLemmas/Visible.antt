-- A search among the spans finds what holds a place.
use Rattle.std.proofs.Common.{◌≡◌, suc, Bool, true, false, List, [], ◌∷◌, Option, None, Some, refl, sym, ap, subst, unwrap_or, arith}
use Rattle.std.proofs.lemmas.Bool.Decides.{nat_tests}
use Rattle.std.specs.List.{All, list_any}
use Rattle.std.specs.Map.{lookup}
use Rattle.std.specs.Ordering.{is_gt, is_le}
use Rattle.std.specs.declared.cmp.Ordering.{Ordering}
use Rattle.std.specs.declared.cmp.Ordering.TheVariants.{Less, Equal, Greater}
use Rattle.grid_config_values.specs.declared.position.Position.{Position}
use Rattle.grid_config_values.specs.Order.{same_place}
use Rattle.grid_config_values.specs.declared.spans.extent.Extent.{Extent}
use Rattle.grid_config_values.specs.Spans.Rectangles.{Holds}
use Rattle.grid_config_values.specs.Spans.Search.{holds}
use Rattle.grid_config_values.specs.Spans.Spans.{extent_at, single}
use Rattle.grid_config_values.proofs.SpansLemmas.Order.{same_position}

pub holds_shown : (anchor : Position) (extent : Extent) (place : Position) → holds anchor extent place ≡ true → Holds anchor extent place
holds_shown anchor extent place e = record {
  below = grind (arith, nat_tests);
  above = grind (arith, nat_tests);
  right = grind (arith, nat_tests);
  left = grind (arith, nat_tests);
}

pub holds_tested : (anchor : Position) (extent : Extent) (place : Position) → Holds anchor extent place → holds anchor extent place ≡ true
holds_tested anchor extent place h = grind (arith, nat_tests, h.below, h.above, h.right, h.left)

-- what is kept at a place is the cell's extent
pub extent_kept : (spans : List (Position × Extent)) (place : Position) (extent : Extent) → lookup (same_place place) spans ≡ Some extent → extent_at spans place ≡ extent
unfolding extent_at
extent_kept spans place extent found = ap (λ (o : Option Extent). unwrap_or o single) found

-- a cell of which nothing is kept holds itself alone
pub single_holds : (anchor place : Position) → Holds anchor single place → anchor ≡ place
single_holds anchor place h =
    let rows : anchor.row ≡ place.row = omega (arith, h.below, h.above) in
    let cols : anchor.col ≡ place.col = omega (arith, h.right, h.left) in
    λ i. record { row = rows i; col = cols i }

same_span : (span : Position × Extent) (place : Position) (extent : Extent) → same_place place span.0 ≡ true → Some span.1 ≡ Some extent → span ≡ (place, extent)
same_span span place extent same found =
    let place_is = same_position place span.0 same in
    let extent_is : span.1 ≡ extent = ap (λ (o : Option Extent). unwrap_or o extent) found in
    λ i. (sym place_is i, extent_is i)

pub first_passes : (test : Position × Extent → Bool) (span : Position × Extent) (place : Position) (extent : Extent) → same_place place span.0 ≡ true →
    Some span.1 ≡ Some extent → test (place, extent) ≡ true → test span ≡ true
first_passes test span place extent same found passes = subst (λ (s : Position × Extent). test s ≡ true) (sym (same_span span place extent same found)) passes

-- what all spans have, each that is kept has
pub all_at : (P : Position × Extent → Type 0) (spans : List (Position × Extent)) (span : Position × Extent) → All P spans → lookup (same_place span.0) spans ≡ Some span.1 → P span
all_at P [] span all found = cc
all_at P (first ∷ spans) span all found = elim (same_place span.0 first.0) as (λ b. same_place span.0 first.0 ≡ b → P span) [
  | true ↦ λ same.
      let here : Some first.1 ≡ Some span.1 = grind (arith, found, same) in
      subst P (same_span first span.0 span.1 same here) (all 0 first (omega arith))
  | false ↦ λ other.
      let there : lookup (same_place span.0) spans ≡ Some span.1 = grind (arith, found, other) in
      all_at P spans span (λ k d lt. all (suc k) d (omega arith)) there
] refl

-- a test that holds of what is kept at a place holds of one of the spans
pub any_from_lookup : (test : Position × Extent → Bool) (spans : List (Position × Extent)) (place : Position) (extent : Extent) →
    lookup (same_place place) spans ≡ Some extent → test (place, extent) ≡ true → list_any test spans ≡ true
any_from_lookup test [] place extent found passes = cc
any_from_lookup test (span ∷ spans) place extent found passes = elim (same_place place span.0) as (λ b. same_place place span.0 ≡ b → list_any test (span ∷ spans) ≡ true) [
  | true ↦ λ same.
      let here : Some span.1 ≡ Some extent = grind (arith, found, same) in
      grind (arith, first_passes test span place extent same here passes)
  | false ↦ λ other.
      let there : lookup (same_place place) spans ≡ Some extent = grind (arith, found, other) in
      grind (arith, any_from_lookup test spans place extent there passes)
] refl

pub le_from_not_gt : (o : Ordering) → is_gt o ≡ false → is_le o ≡ true
le_from_not_gt Less e = refl
le_from_not_gt Equal e = refl
le_from_not_gt Greater e = cc

nothing_kept : (spans : List (Position × Extent)) (place : Position) → lookup (same_place place) spans ≡ None → extent_at spans place ≡ single
unfolding extent_at
nothing_kept spans place none = ap (λ (o : Option Extent). unwrap_or o single) none

-- the extent of a cell is kept, or it is a single cell
pub data IsKept (spans : List (Position × Extent)) (place : Position) : Type 0 where
  Kept : (extent : Extent) → lookup (same_place place) spans ≡ Some extent → extent_at spans place ≡ extent → IsKept spans place
  NotKept : extent_at spans place ≡ single → IsKept spans place

pub kept_or_single : (spans : List (Position × Extent)) (place : Position) → IsKept spans place
kept_or_single spans place = elim (lookup (same_place place) spans) as (λ found. lookup (same_place place) spans ≡ found → IsKept spans place) [
  | None ↦ λ none. NotKept (nothing_kept spans place none)
  | Some extent ↦ λ found. Kept extent found (extent_kept spans place extent found)
] refl
