-- Sizes that an estimate gives, and sizes that pass the range.
use Rattle.std.proofs.Common.{◌≡◌, ℕ, zero, suc, ◌<◌, ◌≤◌, ◌^◌, inl, inr, Bool, true, false, List, [], ◌∷◌, Ok, Err, get_or, refl, ap, sym, subst, ◌∙◌, arith, if◌then◌else◌}
use Rattle.std.specs.Prelude.{◌||◌}
use Rattle.std.specs.List.{list_any}
use Rattle.std.proofs.lemmas.Bool.Decides.{nat_tests}
use Rattle.grid_config_values.specs.declared.fault.Fault.{Fault}
use Rattle.grid_config_values.specs.declared.fault.Fault.TheVariants.{Range}
use Rattle.grid_records_estimate.specs.Collecting.{PassesMax}
use Rattle.grid_records_estimate.specs.Sizes.{IsRefusal}
use Rattle.tabled_steps.specs.Outcomes.{MayRefuseStep, all_sized, passes_usize}

held : (n : ℕ) → n < 2 ^ 64 → passes_usize n ≡ false
held n fits = grind (arith, nat_tests)

passed : (n : ℕ) → 2 ^ 64 ≤ n → passes_usize n ≡ true
passed n far = grind (arith, nat_tests)

none_pass : (xs : List ℕ) → ((k : ℕ) → get_or xs k 0 < 2 ^ 64) → list_any passes_usize xs ≡ false
none_pass [] fits = refl
none_pass (x ∷ xs) fits = ap (λ b. b || list_any passes_usize xs) (held x (fits 0)) ∙ none_pass xs (λ k. fits (suc k))

or-true : (a : Bool) → (a || true) ≡ true
or-true true = refl
or-true false = refl

some_passes : (xs : List ℕ) (k : ℕ) → 2 ^ 64 ≤ get_or xs k 0 → list_any passes_usize xs ≡ true
some_passes [] k far = absurd (omega (arith, far))
some_passes (x ∷ xs) zero far = ap (λ b. b || list_any passes_usize xs) (passed x far)
some_passes (x ∷ xs) (suc k) far = ap (λ b. passes_usize x || b) (some_passes xs k far) ∙ or-true (passes_usize x)

-- sizes in a vector are held
pub held_sizes : (xs : List ℕ) → ((k : ℕ) → get_or xs k 0 < 2 ^ 64) → all_sized xs ≡ Ok xs
held_sizes xs fits = ap (λ b. if b then Err Range else Ok xs) (none_pass xs fits)

-- an estimate of which a size passes is refused
pub refused_sizes : (xs : List ℕ) (fault : Fault) → IsRefusal fault (PassesMax xs) → MayRefuseStep fault (λ outcome. all_sized xs ≡ outcome)
refused_sizes xs fault refused = elim refused as (λ _. MayRefuseStep fault (λ outcome. all_sized xs ≡ outcome)) [
  | inl memory ↦ subst (λ (fault : Fault). MayRefuseStep fault (λ outcome. all_sized xs ≡ outcome)) (sym memory) tt
  | inr range ↦
      subst (λ (fault : Fault). MayRefuseStep fault (λ outcome. all_sized xs ≡ outcome)) (sym range.0)
      (ap (λ b. if b then Err Range else Ok xs) (some_passes xs range.1.0 range.1.1))
]
