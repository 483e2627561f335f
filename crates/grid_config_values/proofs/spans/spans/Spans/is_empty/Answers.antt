-- There are no spans exactly where no cell spans several, since none of one row and one column is kept.
use Rattle.std.proofs.Common.{◌≡◌, ◌==◌, ℕ, List, [], ◌∷◌, true, length, refl, arith}
use Rattle.std.proofs.lemmas.Bool.Decides.{nat_tests}
use Rattle.grid_config_values.specs.declared.position.Position.{Position}
use Rattle.grid_config_values.specs.declared.spans.extent.Extent.{Extent}
use Rattle.grid_config_values.specs.Spans.Clear.{NoneIsSingle}
use Rattle.grid_config_values.proofs.SpansLemmas.Extents.{none_single_if_bounded}
use Rattle.grid_config_values.proofs.SpansLemmas.Good.{none_several_in_none, none_where_none_several}
use Rattle.grid_config_values.proofs.spans.spans.Spans.is_empty.Goals as goal

no_length : (spans : List (Position × Extent)) (n : ℕ) → n ≡ length spans → (n == 0) ≡ true → spans ≡ []
no_length [] n is none = refl
no_length (span ∷ spans) n is none = absurd (grind (arith, nat_tests, is, none))

length_none : (spans : List (Position × Extent)) (n : ℕ) → n ≡ length spans → spans ≡ [] → (n == 0) ≡ true
length_none [] n is none = grind (arith, nat_tests, is)
length_none (span ∷ spans) n is none = cc none

pub returns-clause-several : goal.returns-clause-several
returns-clause-several c =
    let spans = c.args.self.now in
    let several : NoneIsSingle spans = rw (← c.self.view_is) (none_single_if_bounded c.self.inside c.self.invariant) in
    let counted : c.len.result ≡ length spans = rw (← c.self.view_is) c.len.ensures.len in
    (λ is. none_several_in_none spans (no_length spans c.len.result counted is), λ none. length_none spans c.len.result counted (none_where_none_several spans several none))
