use Rattle.std.proofs.Common.{◌≡◌, ℕ, zero, suc, ◌+◌, ◌^◌, ◌<◌, List, [], ◌∷◌, length, get_or, refl, arith, inl, inr}
use Rattle.tabled_size_priority.specs.Peaking.{HasNothing}
use Rattle.tabled_size_priority.proofs.laws.worked_growths.Goals as goal

-- each number of a list is above 0 where the first is and the others are
above : (x : ℕ) (xs : List ℕ) → 0 < x → ((i : ℕ) → i < length xs → 0 < get_or xs i 0) → (i : ℕ) → i < length (x ∷ xs) → 0 < get_or (x ∷ xs) i 0
above x xs first others zero below = first
above x xs first others (suc i) below = others i (omega arith)

has_some : (xs : List ℕ) → 0 < length xs → ((i : ℕ) → i < length xs → 0 < get_or xs i 0) → HasNothing xs → ⊥
has_some xs some positive (inl empty) = omega arith
has_some xs some positive (inr found) = let here : 0 < get_or xs found.0 0 = positive found.0 found.1 in let is : get_or xs found.0 0 ≡ 0 = found.2 in omega arith

none_above : (i : ℕ) → i < 0 → 0 < get_or [] i 0
none_above i below = absurd (omega arith)

two_zeros : (i : ℕ) → let read : ℕ = get_or (0 ∷ 0 ∷ []) i 0 in read ≡ 0
two_zeros zero = refl
two_zeros (suc zero) = refl
two_zeros (suc (suc i)) = refl

pub returns : goal.returns
returns c = record {
  narrowest = record {
    nothing = λ nothing. absurd (has_some (1 ∷ 3 ∷ []) (omega arith) (above 1 (3 ∷ []) (omega arith) (above 3 [] (omega arith) none_above)) nothing);
    raised = λ some positive. record { number = 2 ^ 39 + 2; column = 0; formed = refl; sums = refl };
  };
  narrowest_right = record {
    nothing = λ nothing. absurd (has_some (1 ∷ 1 ∷ 1 ∷ []) (omega arith) (above 1 (1 ∷ 1 ∷ []) (omega arith) (above 1 (1 ∷ []) (omega arith) (above 1 [] (omega arith) none_above))) nothing);
    raised = λ some positive. record { number = 1; column = 2; formed = refl; sums = refl };
  };
  turns = record {
    nothing = λ nothing. absurd (let above : 1 ≡ 0 = nothing 0 (omega arith) in omega arith);
    turns = λ some. record { number = 2 ^ 39; column = 1; formed = refl; sums = refl };
  };
  nothing = record { nothing = λ _. refl; raised = λ some positive. absurd (let above : 0 < 0 = positive 0 (omega arith) in omega arith) };
  zeros = record { nothing = λ _. refl; turns = λ some. absurd (let positive : 0 < get_or (0 ∷ 0 ∷ []) some.0 0 = some.2 in let is : get_or (0 ∷ 0 ∷ []) some.0 0 ≡ 0 = two_zeros some.0 in omega arith) };
  none = record { nothing = λ _. refl; raised = λ some positive. absurd (omega arith) };
}
