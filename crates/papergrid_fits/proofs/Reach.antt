-- How far the first of several tracks reach: their sizes by number, and the boundaries before each.
use Rattle.std.proofs.Common.{◌≡◌, ℕ, zero, suc, ◌+◌, ◌-◌, ◌^◌, ◌<◌, ◌≤◌, Bool, true, false, ◌&&◌, cond, nat_lt, [], ◌∷◌, ◌++◌, Option, None, SomeIff, map, length, take, drop, refl, ap, sym, subst, ◌∙◌, arith, add-one, length-append}
use Rattle.std.specs.List.{filter, range_with_len, sum}
use Rattle.std.proofs.lemmas.Bool.Decides.{nat_tests}
use Rattle.std.proofs.lemmas.List.{drop-map}
use Rattle.std.proofs.lemmas.List.Elements.{filter-append}
use Rattle.std.proofs.lemmas.List.FromFn.{sum_by-map-range_with_len_more, take-map-range_with_len}
use Rattle.papergrid_picture.specs.Frame.{Tracks, boundary_at, stretch, thickness, track_at}

range_with_len-more : (a n : ℕ) → range_with_len a (suc n) ≡ range_with_len a n ++ (a + n) ∷ []
range_with_len-more a zero = let same : a ≡ a + 0 = omega arith in ap (λ b. b ∷ []) same
range_with_len-more a (suc n) = let same : (a + 1) + n ≡ a + suc n = omega arith in ap (λ bs. a ∷ bs) (range_with_len-more (a + 1) n) ∙ ap (λ b. a ∷ (range_with_len (a + 1) n ++ b ∷ [])) same

one_if : (n : ℕ) (there : Bool) → length (cond there (n ∷ []) []) ≡ thickness there
one_if n true = refl
one_if n false = refl

filtered_one : (has : ℕ → Bool) (n : ℕ) → length (filter has (n ∷ [])) ≡ thickness (has n)
filtered_one has n = one_if n (has n)

pub filtered-more : (has : ℕ → Bool) (a n : ℕ) → length (filter has (range_with_len a (suc n))) ≡ length (filter has (range_with_len a n)) + thickness (has (a + n))
filtered-more has a n =
    ap (λ xs. length (filter has xs)) (range_with_len-more a n) ∙ ap length (filter-append has (range_with_len a n) ((a + n) ∷ []))
    ∙ length-append (filter has (range_with_len a n)) (filter has ((a + n) ∷ [])) ∙ ap (λ m. length (filter has (range_with_len a n)) + m) (filtered_one has (a + n))

module _ (margin : ℕ) (size : ℕ → ℕ) (has : ℕ → Bool) where
  abbrev pub reach : ℕ → ℕ
  reach k = margin + sum (map size (range_with_len 0 k)) + length (filter has (range_with_len 0 k))

  pub reach-next : (k : ℕ) → reach (suc k) ≡ reach k + thickness (has k) + size k
  reach-next k =
      let same : 0 + k ≡ k = omega arith in
      let more : sum (map size (range_with_len 0 (suc k))) ≡ sum (map size (range_with_len 0 k)) + size k =
      ap (λ m. sum (map size (range_with_len 0 m))) (sym (add-one k)) ∙ sum_by-map-range_with_len_more (λ n. n) size 0 k k same in
      let there : length (filter has (range_with_len 0 (suc k))) ≡ length (filter has (range_with_len 0 k)) + thickness (has k) =
      filtered-more has 0 k ∙ ap (λ m. length (filter has (range_with_len 0 k)) + thickness (has m)) same in
      omega (arith, more, there)

  pub reach-grows : (k n : ℕ) → reach k ≤ reach (k + n)
  reach-grows k zero = let same : k + 0 ≡ k = omega arith in omega (arith, ap reach same)
  reach-grows k (suc n) =
      let same : k + suc n ≡ suc (k + n) = omega arith in
      omega (arith, reach-grows k n, reach-next (k + n), ap reach same)

  -- tracks of these sizes
  pub boundary_at-reach : (n k : ℕ) → k ≤ n → boundary_at (record { margin = margin; sizes = map size (range_with_len 0 n); has_boundary = has }) k ≡ reach k
  boundary_at-reach n k h = ap (λ xs. margin + sum xs + length (filter has (range_with_len 0 k))) (take-map-range_with_len size 0 n k h)

  abbrev pub tracks : ℕ → Tracks
  tracks n = record { margin = margin; sizes = map size (range_with_len 0 n); has_boundary = has }

  pub track_at-reach : (n : ℕ) → track_at (tracks n) n ≡ reach n + thickness (has n)
  track_at-reach n = let all : n ≤ n = omega arith in ap (λ m. m + thickness (has n)) (boundary_at-reach n n all)

  -- after one track more
  pub reach-more : (k total more : ℕ) (there : Bool) (next : ℕ) → total ≡ reach k → there ≡ has k → more ≡ size k → next ≡ total + thickness there + more → next ≡ reach (k + 1)
  reach-more k total more there next h is w e =
      let same : thickness there ≡ thickness (has k) = ap thickness is in
      let step : reach (k + 1) ≡ reach k + thickness (has k) + size k = ap reach (add-one k) ∙ reach-next k in
      omega (arith, h, same, w, e, step)

  -- where some of the tracks pass the range, all do
  pub total-passes : (n k behind total more : ℕ) (there : Bool) (result : Option ℕ) → k < n → total ≡ reach k → there ≡ has k → more ≡ size k
      → (total + thickness there + more < 2 ^ 64 → ⊥) → result ≡ None → SomeIff result (track_at (tracks n) n + behind < 2 ^ 64) (track_at (tracks n) n + behind)
  total-passes n k behind total more there result h e is w past none =
      let P : Option ℕ → Type 0 = λ o. SomeIff o (track_at (tracks n) n + behind < 2 ^ 64) (track_at (tracks n) n + behind) in
      let rest : suc k + (n - suc k) ≡ n = omega arith in
      let grown : reach (suc k) ≤ reach n = omega (arith, reach-grows (suc k) (n - suc k), ap reach rest) in
      let same : thickness there ≡ thickness (has k) = ap thickness is in
      let refuted : track_at (tracks n) n + behind < 2 ^ 64 → ⊥ = λ fits.
      (let small : total + thickness there + more < 2 ^ 64 = omega (arith, fits, grown, track_at-reach n, reach-next k, e, same, w) in past small) in
      subst P (sym none) refuted

  pub total-ends : (n k behind last total : ℕ) (there : Bool) (result : Option ℕ) → k ≡ n → total ≡ reach k → there ≡ has n → last ≡ behind
      → SomeIff result (total + thickness there + last < 2 ^ 64) (total + thickness there + last) → SomeIff result (track_at (tracks n) n + behind < 2 ^ 64) (track_at (tracks n) n + behind)
  total-ends n k behind last total there result all e is l given =
      let P : ℕ → Type 0 = λ m. SomeIff result (m < 2 ^ 64) m in
      let same : thickness there ≡ thickness (has n) = ap thickness is in
      let whole : total + thickness there + last ≡ track_at (tracks n) n + behind = omega (arith, e, ap reach all, same, l, track_at-reach n) in
      subst P whole given

  -- ---- some of the tracks, from one on

  -- so many from this one on, with the boundaries between them
  abbrev pub strip_length : ℕ → ℕ → ℕ
  strip_length first k = sum (map size (range_with_len first k)) + length (filter has (range_with_len (first + 1) (k - 1)))

  sizes-more : (first k : ℕ) → sum (map size (range_with_len first (suc k))) ≡ sum (map size (range_with_len first k)) + size (first + k)
  sizes-more first k = ap (λ m. sum (map size (range_with_len first m))) (sym (add-one k)) ∙ sum_by-map-range_with_len_more (λ n. n) size first k (first + k) refl

  pub strip-more : (first k : ℕ) → strip_length first (suc k) ≡ strip_length first k + (thickness (nat_lt first (first + k) && has (first + k)) + size (first + k))
  strip-more first zero =
      let none : nat_lt first (first + 0) ≡ false = grind (arith, nat_tests) in
      let thin : thickness (nat_lt first (first + 0) && has (first + 0)) ≡ 0 = ap (λ b. thickness (b && has (first + 0))) none in
      omega (arith, sizes-more first 0, thin)
  strip-more first (suc m) =
      let behind : nat_lt first (first + suc m) ≡ true = grind (arith, nat_tests) in
      let there : thickness (nat_lt first (first + suc m) && has (first + suc m)) ≡ thickness (has (first + suc m)) = ap (λ b. thickness (b && has (first + suc m))) behind in
      let place : first + 1 + m ≡ first + suc m = omega arith in
      let last : thickness (has (first + 1 + m)) ≡ thickness (has (first + suc m)) = ap (λ i. thickness (has i)) place in
      let one : suc (suc m) - 1 ≡ suc m = omega arith in
      let less : suc m - 1 ≡ m = omega arith in
      let count : ℕ → ℕ = λ k. length (filter has (range_with_len (first + 1) k)) in
      let more : count (suc m) ≡ count m + thickness (has (first + 1 + m)) = filtered-more has (first + 1) m in
      omega (arith, sizes-more first (suc m), more, ap count one, ap count less, there, last)

  drop-range : (a k n : ℕ) → drop k (range_with_len a (k + n)) ≡ range_with_len (a + k) n
  drop-range a zero n = let same : a ≡ a + 0 = omega arith in let all : 0 + n ≡ n = omega arith in ap (range_with_len a) all ∙ ap (λ b. range_with_len b n) same
  drop-range a (suc k) n =
      let same : a + 1 + k ≡ a + suc k = omega arith in
      let all : suc k + n ≡ suc (k + n) = omega arith in
      ap (λ m. drop (suc k) (range_with_len a m)) all ∙ drop-range (a + 1) k n ∙ ap (λ b. range_with_len b n) same

  strip-sizes : (n first k : ℕ) → first + k ≤ n → take k (drop first (map size (range_with_len 0 n))) ≡ map size (range_with_len first k)
  strip-sizes n first k h =
      let rest : first + (n - first) ≡ n = omega arith in
      let within : k ≤ n - first = omega arith in
      let front : 0 + first ≡ first = omega arith in
      ap (λ m. take k (drop first (map size (range_with_len 0 m)))) (sym rest) ∙ ap (take k) (drop-map size first (range_with_len 0 (first + (n - first))))
      ∙ ap (λ xs. take k (map size xs)) (drop-range 0 first (n - first) ∙ ap (λ a. range_with_len a (n - first)) front) ∙ take-map-range_with_len size first (n - first) k within

  pub stretch-strip : (n first k : ℕ) → first + k ≤ n → stretch (tracks n) first k ≡ strip_length first k
  stretch-strip n first k h = ap (λ xs. sum xs + length (filter has (range_with_len (first + 1) (k - 1)))) (strip-sizes n first k h)

  -- what is left of a need, when one track more is taken away
  pub left-more : (need first column left next : ℕ) → first ≤ column → left ≡ need - strip_length first (column - first)
      → next ≡ left - (thickness (nat_lt first column && has column) + size column) → next ≡ need - strip_length first (column + 1 - first)
  left-more need first column left next h is e =
      let behind : first + (column - first) ≡ column = omega arith in
      let one : column + 1 - first ≡ suc (column - first) = omega arith in
      let step : strip_length first (column + 1 - first) ≡ strip_length first (column - first) + (thickness (nat_lt first column && has column) + size column) =
      ap (strip_length first) one ∙ strip-more first (column - first) ∙ ap (λ c. strip_length first (column - first) + (thickness (nat_lt first c && has c) + size c)) behind in
      omega (arith, is, e, step)
