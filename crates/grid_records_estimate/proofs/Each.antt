-- What holds of each element of a list.
use Rattle.std.proofs.Common.{◌≡◌, ℕ, zero, suc, ◌+◌, ◌<◌, ◌≤◌, Bool, true, false, List, [], ◌∷◌, ◌++◌, refl, arith, All}
use Rattle.std.specs.List.{filter, flat_map, range_with_len}
use Rattle.std.proofs.lemmas.List.Elements.{All-cons, All-tail}

abbrev pub Each : {X : Type 0} → (X → Type 0) → List X → Type 0
Each P [] = Unit {0}
Each P (x ∷ xs) = P x × Each P xs

module _ {X : Type 0} where
  pub Each-map : (P Q : X → Type 0) → ((x : X) → P x → Q x) → (xs : List X) → Each P xs → Each Q xs
  Each-map P Q f [] h = tt
  Each-map P Q f (x ∷ xs) h = (f x h.0, Each-map P Q f xs h.1)

  pub Each-append : (P : X → Type 0) (xs ys : List X) → Each P xs → Each P ys → Each P (xs ++ ys)
  Each-append P [] ys h k = k
  Each-append P (x ∷ xs) ys h k = (h.0, Each-append P xs ys h.1 k)

  pub Each-from_All : (P : X → Type 0) (xs : List X) → All P xs → Each P xs
  Each-from_All P [] h = tt
  Each-from_All P (x ∷ xs) h = (h 0 x (omega arith), Each-from_All P xs (All-tail P x xs h))

  pub All-from_Each : (P : X → Type 0) (xs : List X) → Each P xs → All P xs
  All-from_Each P [] h = λ k d below. absurd (omega arith)
  All-from_Each P (x ∷ xs) h = All-cons P x xs h.0 (All-from_Each P xs h.1)

  Each-filter-step : (P : X → Type 0) (p : X → Bool) (x : X) (xs : List X) → P x → Each P (filter p xs) → (b : Bool) → p x ≡ b → Each P (filter p (x ∷ xs))
  Each-filter-step P p x xs h rest true e = rw e (h, rest)
  Each-filter-step P p x xs h rest false e = rw e rest

  pub Each-filter : (P : X → Type 0) (p : X → Bool) (xs : List X) → Each P xs → Each P (filter p xs)
  Each-filter P p [] h = tt
  Each-filter P p (x ∷ xs) h = Each-filter-step P p x xs h.0 (Each-filter P p xs h.1) (p x) refl

-- each element of the lists that belong to numbers from a on
pub Each-flat_map : {X : Type 0} (P : X → Type 0) (f : ℕ → List X) (a n : ℕ) → ((k : ℕ) → a ≤ k → k < a + n → Each P (f k)) → Each P (flat_map f (range_with_len a n))
Each-flat_map P f a zero h = tt
Each-flat_map P f a (suc n) h =
    Each-append P (f a) (flat_map f (range_with_len (a + 1) n)) (h a (omega arith) (omega arith))
    (Each-flat_map P f (a + 1) n (λ k low high. h k (omega arith) (omega arith)))
