-- What was collected, clipped and sorted, gives the sizes of the table.
use Rattle.std.proofs.Common.{◌≡◌, ℕ, zero, ◌+◌, ◌-◌, ◌^◌, ◌==◌, ◌&&◌, ◌<◌, ◌≤◌, Bool, true, false, not, max, min, nat_lt, if◌then◌else◌, List, [], ◌∷◌, map, length, get_or, fold, ◌⊎◌, inl, inr, refl, ap, sym, ◌∙◌, subst, arith}
use Rattle.std.specs.List.{filter, range_with_len}
use Rattle.std.specs.List.Sorted.{IsPermutation, IsSorted}
use Rattle.std.proofs.lemmas.Bool.Decides.{nat_tests}
use Rattle.std.proofs.lemmas.List.{get_or_past}
use Rattle.std.proofs.lemmas.Bool.{cases_lt}
use Rattle.std.proofs.lemmas.List.FromFn.{fill_by_all}
use Rattle.grid_records_estimate.specs.contracts.need.NeedOrd.TheImpl.{ghosts as order}
use Rattle.std.proofs.lemmas.List.Sorted.{All-permutation}
use Rattle.grid_records_estimate.specs.declared.need.Need.{Need}
use Rattle.grid_records_estimate.specs.Estimates.{TrackNeeds, least_size, meet, needs_of_length, spanning_needs, track_sizes}
use Rattle.grid_records_estimate.specs.Collecting.{AreFirstBelow, AreInTracks, AreSound, Collected, Describes, HasCollected, IsInTracks, all_needs, clipped, is_of_one_track, size_alone}
use Rattle.grid_records_estimate.proofs.Counting.{count, once, same, same-true, unique}
use Rattle.grid_records_estimate.proofs.Each.{Each, Each-filter, Each-from_All, Each-map, All-from_Each}
use Rattle.grid_records_estimate.proofs.Enumerated.{Sorted-spanning_needs, count-all_needs, count-spanning_needs, least-all_needs, single_size}
use Rattle.grid_records_estimate.proofs.Order.{Le, Sorted, Sorted-from_sort}
use Rattle.grid_records_estimate.proofs.Singles.{fold-singles, fold-split, is_several, is_single, length-fold, size_at}
use Rattle.grid_records_estimate.proofs.Totalling.{greatest-IsPermutation, greatest-total, maxima, sums, total_by, total_by-IsPermutation, total_by-filter, total_by-map, total_by-none, total_by-same}

Sorted-filter : (p : Need → Bool) (xs : List Need) → Sorted xs → Sorted (filter p xs)
Sorted-filter p [] s = tt
Sorted-filter p (x ∷ xs) s = step (p x) refl (Each-filter (Le x) p xs s.0) (Sorted-filter p xs s.1) where
  step : (b : Bool) → p x ≡ b → Each (Le x) (filter p xs) → Sorted (filter p xs) → Sorted (filter p (x ∷ xs))
  step true e first rest = rw e (first, rest)
  step false e first rest = rw e rest

-- the greatest of each of two measures
total_by-join : {X : Type 0} (f g : X → ℕ) (xs : List X)
    → max (total_by (λ x y. max x y) f xs) (total_by (λ x y. max x y) g xs) ≡ total_by (λ x y. max x y) (λ x. max (f x) (g x)) xs
total_by-join f g [] = refl
total_by-join f g (x ∷ xs) = let rest = total_by-join f g xs in omega (arith, rest)

-- how often a need is among those of several tracks
count-several : (n : Need) (xs : List Need) → is_several n ≡ true → count n (filter is_several xs) ≡ count n xs
count-several n xs h =
    total_by-filter (λ x y. x + y) sums (once n) is_several xs
    ∙ total_by-same (λ x y. x + y) sums (λ x. if is_several x then once n x else 0) (once n) (λ x. step x (same n x) refl) xs where
      step : (x : Need) (b : Bool) → same n x ≡ b → (if is_several x then once n x else 0) ≡ once n x
      step x true e = let long : is_several x ≡ true = ap is_several (sym (same-true n x e)) ∙ h in rw long refl
      step x false e = let none : once n x ≡ 0 = rw e in rw none (both (is_several x)) where
        both : (b : Bool) → (if b then 0 else 0) ≡ zero
        both true = refl
        both false = refl

count-single : (n : Need) (xs : List Need) → is_several n ≡ false → count n (filter is_several xs) ≡ 0
count-single n xs h =
    total_by-filter (λ x y. x + y) sums (once n) is_several xs
    ∙ total_by-none (λ x y. x + y) sums (λ x. if is_several x then once n x else 0) (λ x. step x (same n x) refl) xs where
      step : (x : Need) (b : Bool) → same n x ≡ b → (if is_several x then once n x else 0) ≡ 0
      step x true e = let short : is_several x ≡ false = ap is_several (sym (same-true n x e)) ∙ h in rw short refl
      step x false e = let none : once n x ≡ 0 = rw e in rw none (both (is_several x)) where
        both : (b : Bool) → (if b then 0 else 0) ≡ zero
        both true = refl
        both false = refl

singles-inside : (n : ℕ) (xs : List Need) → Each (λ need. need.first < n) xs → Each (λ need. (need.length ≡ 1) × (need.first < n)) (filter is_single xs)
singles-inside n [] h = tt
singles-inside n (x ∷ xs) h = step (is_single x) refl (singles-inside n xs h.1) where
  step : (b : Bool) → is_single x ≡ b → Each (λ need. (need.length ≡ 1) × (need.first < n)) (filter is_single xs)
      → Each (λ need. (need.length ≡ 1) × (need.first < n)) (filter is_single (x ∷ xs))
  step true e rest = let one : x.length ≡ 1 = grind (arith, nat_tests) in rw e ((one, h.0), rest)
  step false e rest = rw e rest

module _ (table : TrackNeeds) (collected : Collected) (needs others : List Need) (kept : HasCollected collected needs) (all : IsPermutation needs (all_needs table))
    (moved : IsPermutation (map (clipped table.tracks) collected.others) others) where
  -- a plain need is none of several tracks
  plain-once : (n x : Need) → is_several n ≡ true → (if not (is_of_one_track x) then once n (clipped table.tracks x) else 0) ≡ once n (clipped table.tracks x)
  plain-once n x h = step (is_of_one_track x) refl where
    step : (b : Bool) → is_of_one_track x ≡ b → (if not b then once n (clipped table.tracks x) else 0) ≡ once n (clipped table.tracks x)
    step true e =
        let one : x.length ≡ 1 = grind (arith, nat_tests) in
        let long : 2 ≤ n.length = grind (arith, nat_tests) in
        let test : (n.length == min x.length (table.tracks - x.first)) ≡ false = grind (arith, nat_tests) in
        rw test refl
    step false e = refl

  count-others : (n : Need) → is_several n ≡ true → count n others ≡ count n (needs_of_length table n.length)
  count-others n h =
      total_by-IsPermutation (once n) (map (clipped table.tracks) collected.others) others moved
      ∙ total_by-map (λ x y. x + y) sums (once n) (clipped table.tracks) collected.others
      ∙ ap (total_by (λ x y. x + y) (λ x. once n (clipped table.tracks x))) kept.others
      ∙ total_by-filter (λ x y. x + y) sums (λ x. once n (clipped table.tracks x)) (λ x. not (is_of_one_track x)) needs
      ∙ total_by-same (λ x y. x + y) sums (λ x. if not (is_of_one_track x) then once n (clipped table.tracks x) else 0) (λ x. once n (clipped table.tracks x)) (λ x. plain-once n x h) needs
      ∙ sym (total_by-IsPermutation (λ x. once n (clipped table.tracks x)) needs (all_needs table) all)
      ∙ count-all_needs table n

  several-are : Sorted others → filter is_several others ≡ spanning_needs table
  several-are sorted =
      unique (filter is_several others) (spanning_needs table) (Sorted-filter is_several others sorted) (Sorted-spanning_needs table) (λ n. step n (is_several n) refl) where
        step : (n : Need) (b : Bool) → is_several n ≡ b → count n (filter is_several others) ≡ count n (spanning_needs table)
        step n true e =
            let test : nat_lt n.length 2 ≡ false = grind (arith, nat_tests) in
            count-several n others e ∙ count-others n e ∙ sym (count-spanning_needs table n ∙ rw test refl)
        step n false e =
            let test : nat_lt n.length 2 ≡ true = grind (arith, nat_tests) in
            count-single n others e ∙ sym (count-spanning_needs table n ∙ rw test refl)

  -- what a need requires of a track: as a plain one, or as one that was clipped to one track
  asks : (track : ℕ) (x : Need) → track < table.tracks
      → max (size_alone track x) (if not (is_of_one_track x) then single_size table track (clipped table.tracks x) else 0) ≡ single_size table track (clipped table.tracks x)
  asks track x below = step (is_of_one_track x) refl (x.first == track) refl where
    step : (b : Bool) → is_of_one_track x ≡ b → (here : Bool) → (x.first == track) ≡ here
        → max (if b && x.first == track then x.size else 0) (if not b then single_size table track (clipped table.tracks x) else 0) ≡ single_size table track (clipped table.tracks x)
    step true e true f =
        let one : x.length ≡ 1 = grind (arith, nat_tests) in
        let there : x.first ≡ track = grind (arith, nat_tests) in
        let test : (min x.length (table.tracks - x.first) == 1) ≡ true = grind (arith, nat_tests) in
        rw (f, test) (maxima.right x.size)
    step true e false f = rw f (none (min x.length (table.tracks - x.first) == 1)) where
      none : (b : Bool) → max 0 0 ≡ (if b && false then x.size else 0)
      none true = refl
      none false = refl
    step false e here f = maxima.left (single_size table track (clipped table.tracks x))

  single-sizes : (track : ℕ) → track < table.tracks
      → max (get_or collected.sizes track 0) (total_by (λ x y. max x y) (size_at track) (filter is_single others)) ≡ least_size table track
  single-sizes track below =
      ap (λ n. max n (total_by (λ x y. max x y) (size_at track) (filter is_single others))) (kept.sizes track ∙ greatest-total (size_alone track) needs)
      ∙ ap (λ n. max (total_by (λ x y. max x y) (size_alone track) needs) n)
      (total_by-filter (λ x y. max x y) maxima (size_at track) is_single others
      ∙ total_by-same (λ x y. max x y) maxima (λ x. if is_single x then size_at track x else 0) (single_size table track) (λ x. alone x (is_single x) refl) others
      ∙ greatest-IsPermutation (single_size table track) (map (clipped table.tracks) collected.others) others moved
      ∙ total_by-map (λ x y. max x y) maxima (single_size table track) (clipped table.tracks) collected.others
      ∙ ap (total_by (λ x y. max x y) (λ x. single_size table track (clipped table.tracks x))) kept.others
      ∙ total_by-filter (λ x y. max x y) maxima (λ x. single_size table track (clipped table.tracks x)) (λ x. not (is_of_one_track x)) needs)
      ∙ total_by-join (size_alone track) (λ x. if not (is_of_one_track x) then single_size table track (clipped table.tracks x) else 0) needs
      ∙ total_by-same (λ x y. max x y) maxima _ (λ x. single_size table track (clipped table.tracks x)) (λ x. asks track x below) needs
      ∙ sym (greatest-IsPermutation (λ x. single_size table track (clipped table.tracks x)) needs (all_needs table) all)
      ∙ least-all_needs table track below where
        alone : (x : Need) (b : Bool) → is_single x ≡ b → (if b then size_at track x else 0) ≡ single_size table track x
        alone x true e = rw e refl
        alone x false e = rw e refl

  pub finished : (sizes : List ℕ) → 0 < table.cross_tracks → length sizes ≡ table.tracks
      → ((track : ℕ) → track < table.tracks → get_or sizes track 0 ≡ get_or collected.sizes track 0)
      → Sorted others → Each (λ need. (0 < need.length) × (need.first < table.tracks)) others
      → fold (meet table.has_boundary) sizes others ≡ track_sizes table
  unfolding track_sizes
  finished sizes crossed long given sorted inside =
      let f = meet table.has_boundary in
      let start = fold f sizes (filter is_single others) in
      let singles : Each (λ need. (need.length ≡ 1) × (need.first < length sizes)) (filter is_single others) =
      singles-inside (length sizes) others (Each-map (λ need. (0 < need.length) × (need.first < table.tracks)) (λ need. need.first < length sizes) (λ need p. rw long p.1) others inside) in
      let least : start ≡ map (least_size table) (range_with_len 0 table.tracks) =
      fill_by_all (least_size table) start table.tracks 0 (length-fold table.has_boundary sizes (filter is_single others) ∙ long)
      (λ track below. fold-singles table.has_boundary sizes (filter is_single others) track singles
      ∙ ap (λ n. max n (total_by (λ x y. max x y) (size_at track) (filter is_single others))) (given track below)
      ∙ single-sizes track below) in
      let some : (table.cross_tracks == 0) ≡ false = grind (arith, nat_tests) in
      let needed = Each-map (λ need. (0 < need.length) × (need.first < table.tracks)) (λ need. 0 < need.length) (λ need p. p.0) others inside in
      rw some (fold-split table.has_boundary sizes others sorted needed
      ∙ ap (fold f start) (several-are sorted)
      ∙ ap (λ xs. fold f xs (spanning_needs table)) least)

-- needs that are sound, clipped and in another order, can be met
module _ (tracks : ℕ) where
  clipped-ready : (xs : List Need) → Each (λ need. (0 < need.length) × (need.size < 2 ^ 66)) xs → Each (λ need. need.first < tracks) xs
      → Each (λ need. IsInTracks tracks need × (need.first < tracks)) (map (clipped tracks) xs)
  clipped-ready [] h g = tt
  clipped-ready (x ∷ xs) h g =
      let some : 0 < x.length = h.0.0 in
      let small : x.size < 2 ^ 66 = h.0.1 in
      let below : x.first < tracks = g.0 in
      ((record { some = omega arith; tracks_fit = omega arith; small = small }, below), clipped-ready xs h.1 g.1)

  pub ordered-ready : (xs ys : List Need) → AreSound xs → AreFirstBelow tracks xs → IsPermutation (map (clipped tracks) xs) ys
      → Each (λ need. IsInTracks tracks need × (need.first < tracks)) ys
  ordered-ready xs ys sound below moved =
      let P : Need → Type 0 = λ need. IsInTracks tracks need × (need.first < tracks) in
      Each-from_All P ys (All-permutation P (map (clipped tracks) xs) ys moved
      (All-from_Each P (map (clipped tracks) xs) (clipped-ready xs
      (Each-from_All (λ need. (0 < need.length) × (need.size < 2 ^ 66)) xs sound)
      (Each-from_All (λ need. need.first < tracks) xs below))))

  pub ordered-inside : (xs ys : List Need) (n : ℕ) → tracks ≡ n → AreSound xs → AreFirstBelow tracks xs → IsPermutation (map (clipped tracks) xs) ys → AreInTracks n ys
  ordered-inside xs ys n same sound below moved =
      let P : ℕ → Type 0 = λ k. AreInTracks k ys in
      subst P same (All-from_Each (IsInTracks tracks) ys
      (Each-map (λ need. IsInTracks tracks need × (need.first < tracks)) (IsInTracks tracks) (λ need p. p.0) ys (ordered-ready xs ys sound below moved)))

-- sizes that were filled up with 0 are the same by number
resized : (old new : List ℕ) (n track : ℕ) → length old ≡ n
    → ((k d : ℕ) → k < track → k < n → get_or new k d ≡ get_or old k d) → ((k d : ℕ) → n ≤ k → k < track → get_or new k d ≡ 0)
    → (k : ℕ) → k < track → get_or new k 0 ≡ get_or old k 0
resized old new n track same low high k below = step (cases_lt k n) where
  step : (k < n) ⊎ (n ≤ k) → get_or new k 0 ≡ get_or old k 0
  step (inl h) = low k 0 below h
  step (inr h) = let past : length old ≤ k = omega arith in high k 0 h below ∙ sym (get_or_past old k 0 past)

finished-in : (table : TrackNeeds) (between : Bool) (collected : Collected) (start : List ℕ) (others : List Need) (tracks cross_tracks : ℕ) → (cross_tracks ≡ 0 → ⊥) → table.tracks ≡ tracks
    → Describes table tracks cross_tracks between collected → AreSound collected.others → AreFirstBelow tracks collected.others
    → IsPermutation (map (clipped tracks) collected.others) others → IsSorted order.cmp others → length start ≡ tracks
    → ((k : ℕ) → k < tracks → get_or start k 0 ≡ get_or collected.sizes k 0)
    → fold (meet table.has_boundary) start others ≡ track_sizes table
finished-in table between collected start others tracks cross_tracks some same =
    let P : ℕ → Type 0 = λ n. Describes table n cross_tracks between collected → AreSound collected.others → AreFirstBelow n collected.others
    → IsPermutation (map (clipped n) collected.others) others → IsSorted order.cmp others → length start ≡ n
    → ((k : ℕ) → k < n → get_or start k 0 ≡ get_or collected.sizes k 0)
    → fold (meet table.has_boundary) start others ≡ track_sizes table in
    subst P same (λ d sound below moved sorted long given.
    let crossed : 0 < table.cross_tracks = omega (arith, d.cross_tracks_are) in
    finished table collected d.needs others d.kept d.all moved start crossed long given (Sorted-from_sort others sorted)
    (Each-map (λ need. IsInTracks table.tracks need × (need.first < table.tracks)) (λ need. (0 < need.length) × (need.first < table.tracks))
    (λ need p. (p.0.some, p.1)) others (ordered-ready table.tracks collected.others others sound below moved)))

-- the sizes that are met, where what was collected describes a table
pub sizes-finished : (table : TrackNeeds) (tracks cross_tracks : ℕ) (between : Bool) (collected : Collected) (start sizes : List ℕ) (others needs : List Need) (n : ℕ)
    → sizes ≡ start → needs ≡ others
    → (cross_tracks ≡ 0 → ⊥) → Describes table tracks cross_tracks between collected → AreSound collected.others → AreFirstBelow tracks collected.others
    → IsPermutation (map (clipped tracks) collected.others) others → IsSorted order.cmp others → length start ≡ tracks → length collected.sizes ≡ n
    → ((k d : ℕ) → k < tracks → k < n → get_or start k d ≡ get_or collected.sizes k d) → ((k d : ℕ) → n ≤ k → k < tracks → get_or start k d ≡ 0)
    → fold (meet table.has_boundary) sizes needs ≡ track_sizes table
sizes-finished table tracks cross_tracks between collected start sizes others needs n same met some d sound below moved sorted long was low high =
    ap (λ xs. fold (meet table.has_boundary) xs needs) same ∙ ap (λ xs. fold (meet table.has_boundary) start xs) met ∙
    finished-in table between collected start others tracks cross_tracks some d.tracks_are d sound below moved sorted long (resized collected.sizes start n tracks was low high)

-- ---- tracks that nothing crosses

pub not_crossed : (table : TrackNeeds) → table.cross_tracks ≡ 0 → track_sizes table ≡ []
unfolding track_sizes
not_crossed table e = let test : (table.cross_tracks == 0) ≡ true = grind (arith, nat_tests) in rw test refl
