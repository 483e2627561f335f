-- Good spans part a table.
use Rattle.std.proofs.Common.{◌≡◌, ◌≢◌, ℕ, true, false, ◌&&◌, ◌==◌, List, [], refl, sym, ap, ◌∙◌, subst, arith}
use Rattle.std.proofs.lemmas.Bool.Decides.{nat_tests}
use Rattle.grid_config_values.specs.declared.position.Position.{Position}
use Rattle.grid_config_values.specs.declared.spans.extent.Extent.{Extent}
use Rattle.grid_config_values.specs.Spans.Rectangles.{Holds}
use Rattle.grid_config_values.specs.Spans.Spans.{AreGood, SpansSeveral, IsInTable, IsVisible, extent_at, single}
use Rattle.grid_config_values.proofs.SpansLemmas.Extents.{same_extent}
use Rattle.grid_config_values.proofs.SpansLemmas.Visible.{single_holds}

-- a cell is single or an anchor: what is kept might be a single cell's
data IsSingle (spans : List (Position × Extent)) (place : Position) : Type 0 where
  Single : extent_at spans place ≡ single → IsSingle spans place
  Anchor : SpansSeveral spans place → IsSingle spans place

single_or_anchor : (spans : List (Position × Extent)) (place : Position) → IsSingle spans place
single_or_anchor spans place = decided (extent_at spans place) refl
  where
    decided : (e : Extent) → extent_at spans place ≡ e → IsSingle spans place
    decided e is = elim (e.rows == 1 && e.columns == 1) as (λ t. (e.rows == 1 && e.columns == 1) ≡ t → IsSingle spans place) [
      | true ↦ λ same. Single (is ∙ same_extent e single (grind (arith, nat_tests)) (grind (arith, nat_tests)))
      | false ↦ λ differs. Anchor (λ is_single.
          let rows : e.rows ≡ 1 = ap (λ (x : Extent). x.rows) (sym is ∙ is_single) in
          let columns : e.columns ≡ 1 = ap (λ (x : Extent). x.columns) (sym is ∙ is_single) in
          grind (arith, nat_tests, differs, rows, columns))
    ] refl

pub in_table_before : (rows columns : ℕ) (a place : Position) (extent : Extent) → IsInTable rows columns place → Holds a extent place → IsInTable rows columns a
in_table_before rows columns a place extent in_table held = (omega (arith, in_table.0, held.below), omega (arith, in_table.1, held.right))

pub visible_apart : (spans : List (Position × Extent)) (rows columns : ℕ) (a b place : Position) → AreGood spans rows columns →
    IsInTable rows columns place → IsVisible spans a → IsVisible spans b → Holds a (extent_at spans a) place → Holds b (extent_at spans b) place → a ≡ b
visible_apart spans rows columns a b place good in_table a_seen b_seen in_a in_b = elim (single_or_anchor spans a) [
  | Single a_single ↦
      let here = single_holds a place (subst (λ (e : Extent). Holds a e place) a_single in_a) in
      sym (a_seen b (subst (λ (p : Position). Holds b (extent_at spans b) p) (sym here) in_b))
  | Anchor a_anchor ↦ elim (single_or_anchor spans b) [
    | Single b_single ↦
        let here = single_holds b place (subst (λ (e : Extent). Holds b e place) b_single in_b) in
        b_seen a (subst (λ (p : Position). Holds a (extent_at spans a) p) (sym here) in_a)
    | Anchor b_anchor ↦
        good.apart a b place a_anchor b_anchor (in_table_before rows columns a place (extent_at spans a) in_table in_a) (in_table_before rows columns b place (extent_at spans b) in_table in_b) in_a in_b
  ]
]

holds_itself : (a place : Position) (extent : Extent) → Holds a extent place → Holds a extent a
holds_itself a place extent held = record {
  below = omega arith;
  above = omega (arith, held.below, held.above);
  right = omega arith;
  left = omega (arith, held.right, held.left);
}

pub holder_is_visible : (spans : List (Position × Extent)) (rows columns : ℕ) (a place : Position) → AreGood spans rows columns →
    IsInTable rows columns place → Holds a (extent_at spans a) place → a ≢ place → IsVisible spans a
holder_is_visible spans rows columns a place good in_table held other b b_holds = elim (single_or_anchor spans a) [
  | Single a_single ↦ absurd (other (single_holds a place (subst (λ (e : Extent). Holds a e place) a_single held)))
  | Anchor a_anchor ↦ elim (single_or_anchor spans b) [
    | Single b_single ↦ single_holds b a (subst (λ (e : Extent). Holds b e a) b_single b_holds)
    | Anchor b_anchor ↦
        let a_table = in_table_before rows columns a place (extent_at spans a) in_table held in
        good.apart b a a b_anchor a_anchor (in_table_before rows columns b a (extent_at spans b) a_table b_holds) a_table b_holds (holds_itself a place (extent_at spans a) held)
  ]
]

pub visible_without : (place : Position) → IsVisible [] place
unfolding extent_at
visible_without place anchor held = single_holds anchor place held

pub good_without : (rows columns : ℕ) → AreGood [] rows columns
unfolding extent_at
good_without rows columns = record {
  inside = λ anchor is_anchor in_table. absurd (is_anchor refl);
  apart = λ a b place a_anchor b_anchor a_table b_table in_a in_b. absurd (a_anchor refl);
}
