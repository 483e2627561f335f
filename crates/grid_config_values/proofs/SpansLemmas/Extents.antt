-- What is kept for a position.
use Rattle.std.proofs.Common.{◌≡◌, ℕ, List, [], ◌∷◌, Option, Some, refl, if◌then◌else◌, arith, unwrap_or, lit<, lit≤, ◌<◌, ◌≤◌, ◌≢◌}
use Rattle.std.specs.Map.{lookup}
use Rattle.std.specs.BTreeMap.{BTreeMap, Updates, is_at}
use Rattle.grid_config_values.specs.declared.position.Position.{Position}
use Rattle.grid_config_values.specs.Order.{position_cmp, same_place}
use Rattle.grid_config_values.specs.declared.spans.extent.Extent.{Extent}
use Rattle.grid_config_values.specs.declared.spans.spans.Spans.TheInside.{Inside}
use Rattle.grid_config_values.specs.Spans.Clear.{NoneIsSingle}
use Rattle.grid_config_values.specs.Spans.Spans.{ArePositive, IsBounded, SetsExtent, extent_at, single}
use Rattle.grid_config_values.proofs.SpansLemmas.Order.{is_eq_cmp}

-- a look-up by the order is one by the place
pub lookup_place : (spans : List (Position × Extent)) (p : Position) → lookup (is_at (position_cmp p)) spans ≡ lookup (same_place p) spans
lookup_place [] p = refl
lookup_place (e ∷ spans) p = grind (arith, is_eq_cmp p e.0, lookup_place spans p)

pub extent_found : (spans : List (Position × Extent)) (p : Position) (found : Option Extent) → found ≡ lookup (is_at (position_cmp p)) spans → unwrap_or found single ≡ extent_at spans p
unfolding extent_at
extent_found spans p found e = grind (arith, lookup_place spans p)

-- nothing is kept
pub none_is_bounded : (extents : BTreeMap Position Extent) → extents.entries ≡ [] → IsBounded (record { extents = extents; most_rows = 1; most_columns = 1 })
unfolding extent_at
none_is_bounded extents e = record {
  rows = λ p. rw e (lit< tt, lit≤ tt);
  columns = λ p. rw e (lit< tt, lit≤ tt);
  kept = λ p extent found. absurd (grind (arith, e, found));
}

-- two numbers are all that an extent is
pub same_extent : (a b : Extent) → a.rows ≡ b.rows → a.columns ≡ b.columns → a ≡ b
same_extent a b rows columns = λ i. record { rows = rows i; columns = columns i }

module _ (old new : BTreeMap Position Extent) (pos : Position) (set : Option Extent) (updates : Updates position_cmp old new pos set) where
  -- what is found after a change at one place
  pub lookup_changed : (p : Position) → lookup (same_place p) new.entries ≡ (if same_place pos p then set else lookup (same_place p) old.entries)
  lookup_changed p = grind (arith, lookup_place old.entries p, lookup_place new.entries p, is_eq_cmp pos p, updates.0 p)

  pub extent_changed : SetsExtent old.entries new.entries pos (unwrap_or set single)
  unfolding extent_at
  extent_changed p = grind (arith, lookup_changed p)

  kept_changed : ((p : Position) (e : Extent) → lookup (same_place p) old.entries ≡ Some e → e ≢ single) → ((e : Extent) → set ≡ Some e → e ≢ single) →
      (p : Position) (e : Extent) → lookup (same_place p) new.entries ≡ Some e → e ≢ single
  kept_changed kept kept_here p e found same = grind (arith, lookup_changed p, kept p e, kept_here e)

  -- what is kept stays bounded
  pub bounded_changed : (old_rows old_columns new_rows new_columns : ℕ) → IsBounded (record { extents = old; most_rows = old_rows; most_columns = old_columns }) →
      ((e : Extent) → set ≡ Some e → e ≢ single) →
      0 < (unwrap_or set single).rows → 0 < (unwrap_or set single).columns →
      (unwrap_or set single).rows ≤ new_rows → (unwrap_or set single).columns ≤ new_columns → old_rows ≤ new_rows → old_columns ≤ new_columns →
      IsBounded (record { extents = new; most_rows = new_rows; most_columns = new_columns })
  bounded_changed old_rows old_columns new_rows new_columns bounded kept_here rows_above columns_above rows_below columns_below more_rows more_columns = record {
    rows = λ p. grind (arith, extent_changed p, bounded.rows p);
    columns = λ p. grind (arith, extent_changed p, bounded.columns p);
    kept = kept_changed bounded.kept kept_here;
  }

pub positive_if_bounded : (fields : Inside) → IsBounded fields → ArePositive fields.extents.entries
positive_if_bounded fields bounded place = ((bounded.rows place).0, (bounded.columns place).0)

pub none_single_if_bounded : (fields : Inside) → IsBounded fields → NoneIsSingle fields.extents.entries
none_single_if_bounded fields bounded span has = bounded.kept span.0 span.1 has
