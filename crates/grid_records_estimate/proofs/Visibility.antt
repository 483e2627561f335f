-- Whether a cell is visible, as a test.
use Rattle.std.proofs.Common.{◌≡◌, Bool, true, false, not, ◌&&◌, List, [], ◌∷◌, IsTrue, ◌↔◌, refl, sym, ap, subst, ◌∙◌, arith}
use Rattle.std.proofs.lemmas.Bool.{false≢true}
use Rattle.std.proofs.lemmas.Bool.Decides.{nat_tests}
use Rattle.std.specs.List.{list_any}
use Rattle.grid_config_values.specs.declared.position.Position.{Position}
use Rattle.grid_config_values.specs.Order.{same_place}
use Rattle.grid_config_values.specs.declared.spans.extent.Extent.{Extent}
use Rattle.grid_config_values.specs.Spans.Rectangles.{Holds}
use Rattle.grid_config_values.specs.Spans.Search.{holds}
use Rattle.grid_config_values.specs.Spans.Spans.{IsVisible, extent_at}
use Rattle.grid_config_values.proofs.SpansLemmas.Order.{same_position}
use Rattle.grid_config_values.proofs.SpansLemmas.Visible.{IsKept, Kept, NotKept, any_from_lookup, holds_shown, holds_tested, kept_or_single, single_holds}
use Rattle.grid_records_estimate.specs.Sizing.{is_visible}

module _ (spans : List (Position × Extent)) (place : Position) where
  abbrev hides : Position × Extent → Bool
  hides span = holds span.0 (extent_at spans span.0) place && not (same_place span.0 place)

  same-from : (anchor : Position) → anchor ≡ place → same_place anchor place ≡ true
  same-from anchor e = let rows = ap (λ p. p.row) e in let cols = ap (λ p. p.col) e in grind (arith, nat_tests, rows, cols)

  both : (a b : Bool) → a ≡ true → b ≡ false → a && not b ≡ true
  both a b e f = rw (e, f) refl

  visible-from-test : list_any hides spans ≡ false → IsVisible spans place
  visible-from-test none anchor held = step (same_place anchor place) refl (kept_or_single spans anchor) where
    step : (b : Bool) → same_place anchor place ≡ b → IsKept spans anchor → anchor ≡ place
    step true same kept = same_position anchor place same
    step false other (Kept extent found is) =
        absurd (false≢true (sym none ∙ any_from_lookup hides spans anchor extent found
        (both (holds anchor (extent_at spans anchor) place) (same_place anchor place) (holds_tested anchor (extent_at spans anchor) place held) other)))
    step false other (NotKept is) = single_holds anchor place (subst (λ (e : Extent). Holds anchor e place) is held)

  test-from-visible : IsVisible spans place → (some : List (Position × Extent)) → list_any hides some ≡ false
  test-from-visible visible [] = refl
  test-from-visible visible (span ∷ others) = step (holds span.0 (extent_at spans span.0) place) refl (test-from-visible visible others) where
    step : (b : Bool) → holds span.0 (extent_at spans span.0) place ≡ b → list_any hides others ≡ false → list_any hides (span ∷ others) ≡ false
    step true held rest =
        let same = same-from span.0 (visible span.0 (holds_shown span.0 (extent_at spans span.0) place held)) in
        rw (held, same) rest
    step false free rest = rw free rest

  pub is_visible-decides : (answer : Bool) → IsTrue answer ↔ IsVisible spans place → answer ≡ is_visible spans place
  is_visible-decides true h = sym (ap not (test-from-visible (h.0 refl) spans))
  is_visible-decides false h = step (list_any hides spans) refl where
    step : (b : Bool) → list_any hides spans ≡ b → false ≡ not (list_any hides spans)
    step true e = sym (ap not e)
    step false e = absurd (false≢true (h.1 (visible-from-test e)))

  -- the test is true of the cells that are seen
  pub is_visible-exact : IsTrue (is_visible spans place) ↔ IsVisible spans place
  is_visible-exact = (λ on. visible-from-test (none-hides (list_any hides spans) on), λ visible. ap not (test-from-visible visible spans)) where
    none-hides : (b : Bool) → not b ≡ true → b ≡ false
    none-hides true on = absurd (false≢true on)
    none-hides false on = refl
