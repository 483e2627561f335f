-- Needs of one track: met one after the other, they raise its size to the greatest.
use Rattle.std.proofs.Common.{◌≡◌, ℕ, zero, suc, ◌+◌, ◌-◌, ◌/◌, ◌%◌, ◌==◌, ◌<◌, ◌≤◌, Bool, true, false, max, nat_le, if◌then◌else◌, List, [], ◌∷◌, ◌++◌, length, sum, take, drop, get_or, fold, refl, ap, sym, ◌∙◌, arith}
use Rattle.std.specs.List.{filter}
use Rattle.std.proofs.lemmas.Bool.Decides.{nat_tests}
use Rattle.grid_records_estimate.specs.declared.need.Need.{Need}
use Rattle.grid_records_estimate.specs.Estimates.{boundaries_within, meet, with_shares}
use Rattle.grid_records_estimate.proofs.Each.{Each, Each-map}
use Rattle.grid_records_estimate.proofs.Growing.{Grows, Grows-meet}
use Rattle.grid_records_estimate.proofs.Order.{Le, Sorted}
use Rattle.grid_records_estimate.proofs.Totalling.{total_by}

pub length-Grows : (xs ys : List ℕ) → Grows xs ys → length ys ≡ length xs
length-Grows [] [] g = refl
length-Grows [] (y ∷ ys) g = absurd g
length-Grows (x ∷ xs) [] g = absurd g
length-Grows (x ∷ xs) (y ∷ ys) g = ap suc (length-Grows xs ys g.1)

raised_at : ℕ → ℕ → List ℕ → List ℕ
raised_at j size [] = []
raised_at zero size (x ∷ xs) = max x size ∷ xs
raised_at (suc j) size (x ∷ xs) = x ∷ raised_at j size xs

get_or-raised_at : (j size : ℕ) (xs : List ℕ) (k : ℕ) → j < length xs → get_or (raised_at j size xs) k 0 ≡ max (get_or xs k 0) (if j == k then size else 0)
unfolding raised_at
get_or-raised_at j size [] k h = absurd (omega arith)
get_or-raised_at zero size (x ∷ xs) zero h = refl
get_or-raised_at zero size (x ∷ xs) (suc k) h = grind (arith, nat_tests)
get_or-raised_at (suc j) size (x ∷ xs) zero h = grind (arith, nat_tests)
get_or-raised_at (suc j) size (x ∷ xs) (suc k) h =
    let below : j < length xs = omega arith in
    let test : (suc j == suc k) ≡ (j == k) = grind (arith, nat_tests) in
    rw test (get_or-raised_at j size xs k below)

-- what one track gets
one_met : (n x : ℕ) → with_shares (n - (sum (x ∷ []) + 0)) (x ∷ []) ≡ max x n ∷ []
one_met n x =
    let size : x + (n - (0 + x + 0)) / 1 + (n - (0 + x + 0)) % 1 ≡ max x n = omega arith in
    ap (λ k. k ∷ []) size

meet-parts : (j size : ℕ) (xs : List ℕ) → j < length xs
    → take j xs ++ (with_shares (size - (sum (take 1 (drop j xs)) + 0)) (take 1 (drop j xs)) ++ drop 1 (drop j xs)) ≡ raised_at j size xs
unfolding raised_at
meet-parts j size [] h = absurd (omega arith)
meet-parts zero size (x ∷ xs) h = ap (λ ys. ys ++ xs) (one_met size x)
meet-parts (suc j) size (x ∷ xs) h = ap (λ ys. x ∷ ys) (meet-parts j size xs (omega arith))

-- how much a need requires of a track
abbrev pub size_at : ℕ → Need → ℕ
size_at track need = if need.first == track then need.size else 0

-- the need is of one track
abbrev pub is_single : Need → Bool
is_single need = need.length == 1

-- the need is of several
abbrev pub is_several : Need → Bool
is_several need = nat_le 2 need.length

module _ (has_boundary : ℕ → Bool) where
  pub length-meet : (sizes : List ℕ) (need : Need) → length (meet has_boundary sizes need) ≡ length sizes
  length-meet sizes need = length-Grows sizes (meet has_boundary sizes need) (Grows-meet has_boundary sizes need)

  meet-single : (sizes : List ℕ) (need : Need) → need.length ≡ 1 → need.first < length sizes → meet has_boundary sizes need ≡ raised_at need.first need.size sizes
  meet-single sizes need one below =
      let none : need.length - 1 ≡ 0 = omega arith in
      let boundaries : boundaries_within has_boundary need ≡ 0 = rw none refl in
      let rest = drop need.first sizes in
      ap (λ n. take need.first sizes ++ (with_shares (need.size - (sum (take n rest) + boundaries_within has_boundary need)) (take n rest) ++ drop n rest)) one
      ∙ ap (λ n. take need.first sizes ++ (with_shares (need.size - (sum (take 1 rest) + n)) (take 1 rest) ++ drop 1 rest)) boundaries
      ∙ meet-parts need.first need.size sizes below

  pub fold-singles : (sizes : List ℕ) (needs : List Need) (track : ℕ) → Each (λ need. (need.length ≡ 1) × (need.first < length sizes)) needs
      → get_or (fold (meet has_boundary) sizes needs) track 0 ≡ max (get_or sizes track 0) (total_by (λ x y. max x y) (size_at track) needs)
  fold-singles sizes [] track h = omega arith
  fold-singles sizes (need ∷ needs) track h =
      let next = meet has_boundary sizes need in
      let long : length next ≡ length sizes = length-meet sizes need in
      let rest : Each (λ n. (n.length ≡ 1) × (n.first < length next)) needs =
      Each-map (λ n. (n.length ≡ 1) × (n.first < length sizes)) (λ n. (n.length ≡ 1) × (n.first < length next))
      (λ n p. let below : n.first < length sizes = p.1 in (p.0, omega arith)) needs h.1 in
      let step : get_or next track 0 ≡ max (get_or sizes track 0) (size_at track need) =
      ap (λ xs. get_or xs track 0) (meet-single sizes need h.0.0 h.0.1) ∙ get_or-raised_at need.first need.size sizes track h.0.1 in
      let later = fold-singles next needs track rest in
      omega (arith, step, later)

  pub length-fold : (sizes : List ℕ) (needs : List Need) → length (fold (meet has_boundary) sizes needs) ≡ length sizes
  length-fold sizes [] = refl
  length-fold sizes (need ∷ needs) = length-fold (meet has_boundary sizes need) needs ∙ length-meet sizes need

  none_single : (needs : List Need) → Each (λ need. 2 ≤ need.length) needs → filter is_single needs ≡ []
  none_single [] h = refl
  none_single (x ∷ xs) h =
      let long : 2 ≤ x.length = h.0 in
      let test : (x.length == 1) ≡ false = grind (arith, nat_tests) in
      rw test (none_single xs h.1)

  all_several : (needs : List Need) → Each (λ need. 2 ≤ need.length) needs → filter is_several needs ≡ needs
  all_several [] h = refl
  all_several (x ∷ xs) h =
      let long : 2 ≤ x.length = h.0 in
      let test : nat_le 2 x.length ≡ true = grind (arith, nat_tests) in
      rw test (ap (λ ys. x ∷ ys) (all_several xs h.1))

  -- in order those of one track come first
  pub fold-split : (sizes : List ℕ) (needs : List Need) → Sorted needs → Each (λ need. 0 < need.length) needs
      → fold (meet has_boundary) sizes needs ≡ fold (meet has_boundary) (fold (meet has_boundary) sizes (filter is_single needs)) (filter is_several needs)
  fold-split sizes [] s h = refl
  fold-split sizes (need ∷ needs) s h = step (need.length == 1) refl (λ xs. fold-split xs needs s.1 h.1) where
    step : (b : Bool) → (need.length == 1) ≡ b
        → ((xs : List ℕ) → fold (meet has_boundary) xs needs ≡ fold (meet has_boundary) (fold (meet has_boundary) xs (filter is_single needs)) (filter is_several needs))
        → fold (meet has_boundary) (meet has_boundary sizes need) needs
        ≡ fold (meet has_boundary) (fold (meet has_boundary) sizes (filter is_single (need ∷ needs))) (filter is_several (need ∷ needs))
    step true e rest =
        let short : nat_le 2 need.length ≡ false = grind (arith, nat_tests) in
        rw (e, short) (rest (meet has_boundary sizes need))
    step false e rest =
        let some : 0 < need.length = h.0 in
        let long : 2 ≤ need.length = grind (arith, nat_tests) in
        let others : Each (λ n. 2 ≤ n.length) needs = Each-map (Le need) (λ n. 2 ≤ n.length) (λ n le. let up : need.length ≤ n.length = le.length in omega arith) needs s.0 in
        let front : filter is_single (need ∷ needs) ≡ [] = none_single (need ∷ needs) (long, others) in
        let behind : filter is_several (need ∷ needs) ≡ need ∷ needs = all_several (need ∷ needs) (long, others) in
        sym (ap (λ ys. fold (meet has_boundary) (fold (meet has_boundary) sizes ys) (filter is_several (need ∷ needs))) front
        ∙ ap (λ ys. fold (meet has_boundary) sizes ys) behind)
