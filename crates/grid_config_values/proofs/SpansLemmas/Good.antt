-- Spans are good exactly where each of them is.
use Rattle.std.proofs.Common.{◌≡◌, ℕ, Bool, true, false, not, List, [], ◌∷◌, Option, None, Some, ◌+◌, ◌<◌, ◌≤◌, nat_lt, refl, sym, ap, subst, ◌∙◌, unwrap_or, ◌⊎◌, inl, inr, arith}
use Rattle.std.proofs.lemmas.Bool.{and_parts}
use Rattle.std.proofs.lemmas.Bool.Decides.{nat_tests}
use Rattle.std.specs.Map.{lookup}
use Rattle.std.proofs.lemmas.Map.Entries.{lookup_head}
use Rattle.std.specs.Ordering.{is_le}
use Rattle.grid_config_values.specs.declared.position.Position.{Position}
use Rattle.grid_config_values.specs.Order.{position_cmp, same_place}
use Rattle.grid_config_values.specs.declared.spans.extent.Extent.{Extent}
use Rattle.grid_config_values.specs.Spans.Rectangles.{Holds, IsInside}
use Rattle.grid_config_values.specs.Spans.Search.{corner, holds, is_inside, overlaps}
use Rattle.grid_config_values.specs.Spans.Clear.{Has, IsClear, IsClearIn, IsLeftOf, IsOverlapped, NoneIsSingle, is_overlapped_by, right_end}
use Rattle.grid_config_values.specs.Spans.Spans.{AreGood, ArePositive, SpansSeveral, IsInTable, extent_at, single}
use Rattle.grid_config_values.proofs.SpansLemmas.Order.{is_le_cmp, same_position, same_itself}
use Rattle.grid_config_values.proofs.SpansLemmas.Visible.{Kept, NotKept, extent_kept, holds_shown, kept_or_single}

pub inside_tested : (anchor : Position) (extent : Extent) (rows columns : ℕ) → IsInside anchor extent rows columns → is_inside anchor extent rows columns ≡ true
inside_tested anchor extent rows columns inside = grind (arith, nat_tests, inside.rows_fit, inside.columns_fit)

-- two rectangles that share a place share the first that may be in both
corner_held : (a b place : Position) (a_extent b_extent : Extent) → Holds a a_extent place → Holds b b_extent place → overlaps a a_extent b b_extent ≡ true
corner_held a b place a_extent b_extent in_a in_b =
    let here : holds a a_extent (corner a b) ≡ true = grind (arith, nat_tests, in_a.below, in_a.above, in_a.left, in_a.right, in_b.below, in_b.right) in
    let there : holds b b_extent (corner a b) ≡ true = grind (arith, nat_tests, in_b.below, in_b.above, in_b.left, in_b.right, in_a.below, in_a.right) in
    grind (arith, here, there)

-- a rectangle overlaps another one that begins in one of its rows, and in its columns or left of them, from where it reaches them
overlap_across : (a b : Position) (a_extent b_extent : Extent) → a.row ≤ b.row → b.row < a.row + a_extent.rows → b.col < a.col + a_extent.columns → a.col < b.col + b_extent.columns →
    0 < a_extent.columns → 0 < b_extent.rows → 0 < b_extent.columns → overlaps a a_extent b b_extent ≡ true
overlap_across a b a_extent b_extent from to left reaches a_columns b_rows b_columns = corner_held a b (corner a b) a_extent b_extent
    (record { below = omega (arith, from); above = omega (arith, from, to); right = omega arith; left = omega (arith, left, a_columns) })
    (record { below = omega (arith, from); above = omega (arith, from, b_rows); right = omega arith; left = omega (arith, reaches, b_columns) })

-- one that it doesn't overlap ends before it
ends_before : (a b : Position) (a_extent b_extent : Extent) → is_overlapped_by a a_extent (b, b_extent) ≡ false → same_place b a ≡ false → a.row ≤ b.row → b.row < a.row + a_extent.rows →
    b.col < a.col + a_extent.columns → 0 < a_extent.columns → 0 < b_extent.rows → 0 < b_extent.columns → b.col + b_extent.columns ≤ a.col
ends_before a b a_extent b_extent apart other from to left a_columns b_rows b_columns = elim (nat_lt a.col (b.col + b_extent.columns)) as (λ t. nat_lt a.col (b.col + b_extent.columns) ≡ t → b.col + b_extent.columns ≤ a.col) [
  | true ↦ λ reaches.
      let overlapped = overlap_across a b a_extent b_extent from to left (grind (arith, nat_tests, reaches)) a_columns b_rows b_columns in
      absurd (grind (arith, apart, other, overlapped))
  | false ↦ λ ends. grind (arith, nat_tests, ends)
] refl

one_order : (a b : Position) → (is_le (position_cmp a b) ≡ true) ⊎ (is_le (position_cmp b a) ≡ true)
one_order a b = elim (is_le (position_cmp a b)) as (λ t. is_le (position_cmp a b) ≡ t → (is_le (position_cmp a b) ≡ true) ⊎ (is_le (position_cmp b a) ≡ true)) [
  | true ↦ λ e. inl e
  | false ↦ λ e.
      let past = sym (is_le_cmp a b) ∙ e in
      inr (is_le_cmp b a ∙ grind (arith, nat_tests, past))
] refl

not_itself : (a b : Position) → a ≡ b → not (same_place b a) ≡ true → ⊥
not_itself a b same other =
    let itself : same_place b a ≡ true = rw same (same_itself b) in
    grind (arith, itself, other)

pub is_false : (b : Bool) → (b ≡ true → ⊥) → b ≡ false
is_false true never = absurd (never refl)
is_false false never = refl

-- what is known of one span, where its extent is no single cell's, and each takes at least one row and one column
module _ (spans : List (Position × Extent)) (positive : ArePositive spans) (several : NoneIsSingle spans) where
  has_anchor : (span : Position × Extent) → Has spans span → SpansSeveral spans span.0
  has_anchor span has is_single = several span has (sym (extent_kept spans span.0 span.1 has) ∙ is_single)

  has_rows : (span : Position × Extent) → Has spans span → 0 < span.1.rows
  has_rows span has = subst (λ (e : Extent). 0 < e.rows) (extent_kept spans span.0 span.1 has) (positive span.0).0

  has_columns : (span : Position × Extent) → Has spans span → 0 < span.1.columns
  has_columns span has = subst (λ (e : Extent). 0 < e.columns) (extent_kept spans span.0 span.1 has) (positive span.0).1

  -- spans at the same place are the same
  same_span : (a b : Position × Extent) → Has spans a → Has spans b → same_place a.0 b.0 ≡ true → a.1 ≡ b.1
  same_span a b has_a has_b same =
      let place_is = same_position a.0 b.0 same in
      let found : Some a.1 ≡ Some b.1 = sym has_a ∙ ap (λ (p : Position). lookup (same_place p) spans) place_is ∙ has_b in
      ap (λ (o : Option Extent). unwrap_or o single) found

  -- where a span begins left of the right end, the last of those doesn't overlap the rectangle
  last_behind : (anchor : Position) (extent : Extent) (row : ℕ) → IsClearIn spans anchor extent row → (span : Position × Extent) → Has spans span → IsLeftOf (right_end anchor extent row) span.0 →
      (last : Position × Extent) × Has spans last × IsLeftOf (right_end anchor extent row) last.0 × (span.0.col ≤ last.0.col) × (is_overlapped_by anchor extent last ≡ false)
  last_behind anchor extent row (None, none, clear) span has left = absurd (none span has left)
  last_behind anchor extent row (Some last, is_last, clear) span has left = (last, is_last.0, is_last.1, is_last.2 span has left, clear)

  module _ (rows columns : ℕ) where
    module _ (clear : (span : Position × Extent) → Has spans span → IsClear spans rows columns span) where
      -- no span begins in the row of another one, within its columns
      none_beside : (a b : Position × Extent) → Has spans a → Has spans b → IsInTable rows columns a.0 → b.0.row ≡ a.0.row → a.0.col < b.0.col → b.0.col < a.0.col + a.1.columns → ⊥
      none_beside a b has_a has_b in_table same_row right left =
          let here = has_rows a has_a in
          let found = last_behind a.0 a.1 a.0.row ((clear a has_a in_table).1 a.0.row (omega arith) (omega (arith, here))) b has_b (same_row, left) in
          let last = found.0 in
          let last_rows = has_rows last found.1 in
          let last_columns = has_columns last found.1 in
          grind (arith, nat_tests, found.2.0, found.2.1, found.3, found.4, right, here, last_rows, last_columns)

      -- of two that share a place the first one sees the other
      apart_in_order : (a b : Position × Extent) (place : Position) → Has spans a → Has spans b → IsInTable rows columns a.0 → IsInTable rows columns b.0 →
          Holds a.0 a.1 place → Holds b.0 b.1 place → is_le (position_cmp a.0 b.0) ≡ true → same_place b.0 a.0 ≡ true
      apart_in_order a b place has_a has_b a_table b_table in_a in_b behind =
          let order = sym (is_le_cmp a.0 b.0) ∙ behind in
          let from : a.0.row ≤ b.0.row = grind (arith, nat_tests, order) in
          let below : b.0.row < a.0.row + a.1.rows = omega (arith, in_a.above, in_b.below) in
          let found = last_behind a.0 a.1 b.0.row ((clear a has_a a_table).1 b.0.row from below) b has_b (refl, omega (arith, in_a.left, in_b.right)) in
          let last = found.0 in
          elim (same_place last.0 a.0) as (λ t. same_place last.0 a.0 ≡ t → same_place b.0 a.0 ≡ true) [
            | true ↦ λ same. grind (arith, nat_tests, same, order, found.2.0, found.3)
            | false ↦ λ other.
                let a_columns : 0 < a.1.columns = omega (arith, in_a.right, in_a.left) in
                let short = ends_before a.0 last.0 a.1 last.1 found.4 other (rw found.2.0 from) (rw found.2.0 below) found.2.1 a_columns (has_rows last found.1) (has_columns last found.1) in
                elim (same_place b.0 last.0) as (λ t. same_place b.0 last.0 ≡ t → same_place b.0 a.0 ≡ true) [
                  | true ↦ λ here.
                      let columns_are : b.1.columns ≡ last.1.columns = ap (λ (e : Extent). e.columns) (same_span b last has_b found.1 here) in
                      absurd (grind (arith, nat_tests, here, columns_are, short, in_a.right, in_b.left))
                  | false ↦ λ behind.
                      let right : b.0.col < last.0.col = grind (arith, nat_tests, behind, found.2.0, found.3) in
                      let columns_of_last = has_columns last found.1 in
                      absurd (none_beside b last has_b found.1 b_table found.2.0 right (omega (arith, short, columns_of_last, in_a.right, in_b.left)))
                ] refl
          ] refl

      apart_if_clear : (a b : Position × Extent) (place : Position) → Has spans a → Has spans b → IsInTable rows columns a.0 → IsInTable rows columns b.0 → Holds a.0 a.1 place → Holds b.0 b.1 place → a.0 ≡ b.0
      apart_if_clear a b place has_a has_b a_table b_table in_a in_b = elim (one_order a.0 b.0) [
        | inl behind ↦ sym (same_position b.0 a.0 (apart_in_order a b place has_a has_b a_table b_table in_a in_b behind))
        | inr behind ↦ same_position a.0 b.0 (apart_in_order b a place has_b has_a b_table a_table in_b in_a behind)
      ]

      apart_from_clear : (a b place : Position) → SpansSeveral spans a → SpansSeveral spans b → IsInTable rows columns a → IsInTable rows columns b → Holds a (extent_at spans a) place → Holds b (extent_at spans b) place → a ≡ b
      apart_from_clear a b place a_is b_is a_table b_table in_a in_b = elim (kept_or_single spans a) [
        | NotKept single_a ↦ absurd (a_is single_a)
        | Kept a_extent a_found a_has ↦ elim (kept_or_single spans b) [
          | NotKept single_b ↦ absurd (b_is single_b)
          | Kept b_extent b_found b_has ↦
              apart_if_clear (a, a_extent) (b, b_extent) place a_found b_found a_table b_table (subst (λ (e : Extent). Holds a e place) a_has in_a) (subst (λ (e : Extent). Holds b e place) b_has in_b)
        ]
      ]

      inside_from_clear : (anchor : Position) → SpansSeveral spans anchor → IsInTable rows columns anchor → IsInside anchor (extent_at spans anchor) rows columns
      inside_from_clear anchor is_anchor in_table = elim (kept_or_single spans anchor) [
        | NotKept is_single ↦ absurd (is_anchor is_single)
        | Kept extent found has ↦ subst (λ (e : Extent). IsInside anchor e rows columns) (sym has) (clear (anchor, extent) found in_table).0
      ]

      pub good_from_clear : AreGood spans rows columns
      good_from_clear = record { inside = inside_from_clear; apart = apart_from_clear }

    pub inside_if_good : AreGood spans rows columns → (span : Position × Extent) → Has spans span → IsInTable rows columns span.0 → IsInside span.0 span.1 rows columns
    inside_if_good good span has in_table =
        subst (λ (e : Extent). IsInside span.0 e rows columns) (extent_kept spans span.0 span.1 has) (good.inside span.0 (has_anchor span has) in_table)

    -- where one is overlapped, the spans are not good
    pub overlap_is_bad : AreGood spans rows columns → (span : Position × Extent) → Has spans span → IsInTable rows columns span.0 → IsOverlapped spans span.0 span.1 → ⊥
    overlap_is_bad good span has in_table overlapped =
        let inside = inside_if_good good span has in_table in
        let other = overlapped.3.0 in
        let left = overlapped.3.2 in
        let parts = and_parts (not (same_place other.0 span.0)) (overlaps span.0 span.1 other.0 other.1) overlapped.3.3 in
        let place = corner span.0 other.0 in
        let held = and_parts (holds span.0 span.1 place) (holds other.0 other.1 place) parts.1 in
        let other_table : IsInTable rows columns other.0 = (omega (arith, overlapped.2, left.0, inside.rows_fit), omega (arith, left.1, inside.columns_fit)) in
        let in_span = subst (λ (e : Extent). Holds span.0 e place) (sym (extent_kept spans span.0 span.1 has)) (holds_shown span.0 span.1 place held.0) in
        let in_other = subst (λ (e : Extent). Holds other.0 e place) (sym (extent_kept spans other.0 other.1 overlapped.3.1)) (holds_shown other.0 other.1 place held.1) in
        not_itself span.0 other.0 (good.apart span.0 other.0 place (has_anchor span has) (has_anchor other overlapped.3.1) in_table other_table in_span in_other) parts.0

-- where no cell spans several, there are no spans
pub none_where_none_several : (spans : List (Position × Extent)) → NoneIsSingle spans → ((place : Position) → ¬ (SpansSeveral spans place)) → spans ≡ []
none_where_none_several [] several none = refl
none_where_none_several (span ∷ spans) several none =
    let has : Has (span ∷ spans) span = lookup_head (same_place span.0) span spans (same_itself span.0) in
    absurd (none span.0 (λ alone. several span has (sym (extent_kept (span ∷ spans) span.0 span.1 has) ∙ alone)))

pub none_several_in_none : (spans : List (Position × Extent)) → spans ≡ [] → (place : Position) → ¬ (SpansSeveral spans place)
unfolding extent_at
none_several_in_none [] none place several = several refl
none_several_in_none (span ∷ spans) none place several = cc none
