-- A row that is put between others.
use Rattle.std.proofs.Common.{◌≡◌, ◌∙◌, ◌≤◌, ap, ap₂, sym, arith, inl, inr, ℕ, List, [], ◌∷◌, ◌++◌, length, min}
use Rattle.std.proofs.lemmas.Bool.{cases_lt}
use Rattle.std.proofs.lemmas.List.{drop_all, take_all}
use Rattle.std.specs.Prelude.{insert}

-- past the end it is the last
insert-past : {X : Type 0} (xs : List X) (place : ℕ) (x : X) → length xs ≤ place → insert xs place x ≡ xs ++ x ∷ []
insert-past {X} xs place x past = ap₂ (λ (a b : List X). a ++ x ∷ b) (take_all place xs past) (drop_all place xs past)

pub insert-min : {X : Type 0} (xs : List X) (place : ℕ) (x : X) → insert xs (min place (length xs)) x ≡ insert xs place x
insert-min {X} xs place x =
    elim (cases_lt place (length xs)) [
      | inl inside ↦ let same : min place (length xs) ≡ place = omega (arith, inside) in ap (λ (n : ℕ). insert xs n x) same
      | inr past ↦ insert-past xs (min place (length xs)) x (omega (arith, past)) ∙ sym (insert-past xs place x (omega (arith, past)))
    ]
