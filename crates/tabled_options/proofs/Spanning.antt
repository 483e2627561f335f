-- Spans of some cells, set one after the other.
use Rattle.std.proofs.Common.{◌≡◌, ◌≢◌, ◌||◌, ◌==◌, ℕ, Bool, true, false, cond, List, [], ◌∷◌, length, Option, Ok, Err, refl, ap, sym, ◌∙◌, arith}
use Rattle.std.proofs.Math.Path.{fun_ext}
use Rattle.std.proofs.lemmas.Bool.Decides.{nat_tests}
use Rattle.grid_config_values.specs.Entities.{covered_positions}
use Rattle.grid_config_values.specs.Order.{same_place}
use Rattle.grid_config_values.specs.declared.entity.Entity.{Entity}
use Rattle.grid_config_values.specs.declared.position.Position.{Position}
use Rattle.grid_config_values.proofs.SpansLemmas.Order.{same_position}
use Rattle.grid_config_values.specs.Spans.Spans.{extent_at}
use Rattle.grid_config_values.specs.declared.spans.extent.Extent.{Extent}
use Rattle.grid_config.specs.Looks.{Look, look_of}
use Rattle.grid_config.specs.Settings.{Settings}
use Rattle.grid_config.specs.Colors.{Color}
use Rattle.grid_config_values.specs.declared.fault.Fault.TheVariants.{Spans}
use Rattle.tabled_steps.specs.Stored.{Stored}
use Rattle.tabled_steps.specs.Looks.{changing_inside, placing, with_extents}
use Rattle.tabled_steps.specs.States.{State, column_count, looking, state_with}
use Rattle.tabled_options.specs.Spanning.{placed_all, span_extent, span_size, spanned_at, spanning, taking}
use Rattle.tabled_options.specs.declared.span.Span.{Span}
use Rattle.tabled_options.specs.declared.span.TrackKind.{TrackKind}
use Rattle.tabled_options.specs.declared.span.TrackKind.TheVariants.{Columns, Rows}
use Rattle.tabled_steps.proofs.Places.{among_covered, is_among}

symmetric : (a b : Position) → same_place a b ≡ same_place b a
symmetric a b = grind (arith, nat_tests)

module _ (change : Extent → Extent) (again : (extent : Extent) → change (change extent) ≡ change extent) where
  once : (b m : Bool) (here there : Extent) → (b ≡ true → there ≡ here) → cond m (change (cond b (change there) here)) (cond b (change there) here) ≡ cond (b || m) (change here) here
  once true true here there same = again there ∙ ap change (same refl)
  once true false here there same = ap change (same refl)
  once false true here there same = refl
  once false false here there same = refl

  placed_at : (places : List Position) (old : Position → Extent) (p : Position) → placed_all change places old p ≡ cond (is_among p places) (change (old p)) (old p)
  placed_at [] old p = refl
  placed_at (q ∷ places) old p =
      placed_at places (placing q (change (old q)) old) p
      ∙ once (same_place q p) (is_among p places) (old p) (old q) (λ same. ap old (same_position q p same))
      ∙ ap (λ b. cond (b || is_among p places) (change (old p)) (old p)) (symmetric q p)

  -- the places that an entity covers of a table
  pub placed_covered : (at : Entity) (rows columns : ℕ) (old : Position → Extent) → placed_all change (covered_positions at rows columns) old ≡ changing_inside change at rows columns old
  placed_covered at rows columns old =
      fun_ext (λ p. placed_at (covered_positions at rows columns) old p ∙ ap (λ b. cond b (change (old p)) (old p)) (among_covered at rows columns p))

twice : (of : TrackKind) (n : ℕ) (extent : Extent) → taking of n (taking of n extent) ≡ taking of n extent
twice Columns n extent = refl
twice Rows n extent = refl

-- the test separates what is not 0 from 0
pub not-zero : (n : ℕ) → n ≢ 0 → (n == 0) ≡ false
not-zero n some = grind (arith, nat_tests, some)

-- the step of a span, by settings in which it is set at each place
pub spanned_state : (span : Span) (at : Entity) (rows : List (List (List ℕ))) (colors : Position → Option Color) (sizes : Stored) (old changed : Settings) (m n : ℕ) → m ≡ length rows → n ≡ column_count rows → (span_size span == 0) ≡ false →
    look_of changed ≡ spanned_at span (covered_positions at m n) (look_of old) → spanning span at (state_with rows (look_of old) colors sizes) ≡ Ok (state_with rows (look_of changed) colors sizes)
spanned_state span at rows colors sizes old changed m n many wide some is =
    let state : State = state_with rows (look_of old) colors sizes in
    ap (λ b. cond b (Err Spans) (looking (with_extents (span_extent span) at (length rows) (column_count rows)) state)) some
    ∙ ap (λ (extents : Position → Extent). Ok (state_with rows (record (look_of old) { extent = extents }) colors sizes))
    (sym (placed_covered (span_extent span) (twice span.of span.size) at (length rows) (column_count rows) (extent_at old.spans)))
    ∙ ap (λ m. Ok (state_with rows (spanned_at span (covered_positions at m (column_count rows)) (look_of old)) colors sizes)) (sym many)
    ∙ ap (λ n. Ok (state_with rows (spanned_at span (covered_positions at m n) (look_of old)) colors sizes)) (sym wide)
    ∙ ap (λ (look : Look). Ok (state_with rows look colors sizes)) (sym is)
