-- What holds of each element of lists that are made from others holds where these come from.
use Rattle.std.proofs.Common.{◌≡◌, ℕ, zero, suc, ◌+◌, ◌<◌, ◌≤◌, ◌⊎◌, inl, inr, Bool, true, false, List, [], ◌∷◌, ◌++◌, map, refl, sym, ◌∙◌, subst, arith}
use Rattle.std.specs.List.{filter, flat_map, range_with_len}
use Rattle.std.proofs.lemmas.Bool.{cases_lt, false≢true}
use Rattle.grid_records_estimate.proofs.Each.{Each}

module _ {X : Type 0} where
  Each-append_first : (P : X → Type 0) (xs ys : List X) → Each P (xs ++ ys) → Each P xs
  Each-append_first P [] ys h = tt
  Each-append_first P (x ∷ xs) ys h = (h.0, Each-append_first P xs ys h.1)

  Each-append_rest : (P : X → Type 0) (xs ys : List X) → Each P (xs ++ ys) → Each P ys
  Each-append_rest P [] ys h = h
  Each-append_rest P (x ∷ xs) ys h = Each-append_rest P xs ys h.1

  -- of the list of one of the numbers from a on
  pub Each-from_flat_map : (P : X → Type 0) (f : ℕ → List X) (a n k : ℕ) → a ≤ k → k < a + n → Each P (flat_map f (range_with_len a n)) → Each P (f k)
  Each-from_flat_map P f a zero k low high h = absurd (omega arith)
  Each-from_flat_map P f a (suc n) k low high h =
      step (cases_lt a k) (λ above. Each-from_flat_map P f (a + 1) n k (omega arith) (omega arith) (Each-append_rest P (f a) (flat_map f (range_with_len (a + 1) n)) h)) where
        step : (a < k) ⊎ (k ≤ a) → (a < k → Each P (f k)) → Each P (f k)
        step (inl above) later = later above
        step (inr upto) later =
            let same : a ≡ k = omega arith in
            let Q : ℕ → Type 0 = λ j. Each P (f j) in
            subst Q same (Each-append_first P (f a) (flat_map f (range_with_len (a + 1) n)) h)

  pub Each-mapped : {Y : Type 0} (P : X → Type 0) (g : Y → X) (ys : List Y) → Each (λ y. P (g y)) ys → Each P (map g ys)
  Each-mapped P g [] h = tt
  Each-mapped P g (y ∷ ys) h = (h.0, Each-mapped P g ys h.1)

  pub Each-from_mapped : {Y : Type 0} (P : X → Type 0) (g : Y → X) (ys : List Y) → Each P (map g ys) → Each (λ y. P (g y)) ys
  Each-from_mapped P g [] h = tt
  Each-from_mapped P g (y ∷ ys) h = (h.0, Each-from_mapped P g ys h.1)

  -- what a filter lets through passes its test
  pub Each-filtered : (p : X → Bool) (xs : List X) → Each (λ x. p x ≡ true) (filter p xs)
  Each-filtered p [] = tt
  Each-filtered p (x ∷ xs) = step (p x) refl (Each-filtered p xs) where
    step : (b : Bool) → p x ≡ b → Each (λ y. p y ≡ true) (filter p xs) → Each (λ y. p y ≡ true) (filter p (x ∷ xs))
    step true e rest = rw e (e, rest)
    step false e rest = rw e rest

  pub Each-from_filtered : (P : X → Type 0) (p : X → Bool) (xs : List X) → Each P (filter p xs) → Each (λ x. p x ≡ true → P x) xs
  Each-from_filtered P p [] h = tt
  Each-from_filtered P p (x ∷ xs) h = step (p x) refl h (Each-from_filtered P p xs) where
    step : (b : Bool) → p x ≡ b → Each P (filter p (x ∷ xs)) → (Each P (filter p xs) → Each (λ y. p y ≡ true → P y) xs) → Each (λ y. p y ≡ true → P y) (x ∷ xs)
    step true e k later = let all = rw e at k in ((λ t. all.0), later all.1)
    step false e k later = let rest = rw e at k in ((λ t. absurd (false≢true (sym e ∙ t))), later rest)

-- of one of the numbers from a on
pub Each-from_range : (P : ℕ → Type 0) (a n k : ℕ) → a ≤ k → k < a + n → Each P (range_with_len a n) → P k
Each-from_range P a zero k low high h = absurd (omega arith)
Each-from_range P a (suc n) k low high h = step (cases_lt a k) (λ above. Each-from_range P (a + 1) n k (omega arith) (omega arith) h.1) where
  step : (a < k) ⊎ (k ≤ a) → (a < k → P k) → P k
  step (inl above) later = later above
  step (inr upto) later = let same : a ≡ k = omega arith in subst P same h.0
