-- The spanning needs of a table: they are in order, and each is among all needs; and the least sizes.
use Rattle.std.proofs.Common.{◌≡◌, ◌≢◌, ℕ, zero, suc, ◌+◌, ◌-◌, ◌==◌, ◌&&◌, ◌<◌, Bool, true, false, max, nat_lt, if◌then◌else◌, List, [], ◌∷◌, ◌++◌, map, refl, ap, sym, ◌∙◌, subst, arith}
use Rattle.std.specs.List.{filter, flat_map, range_with_len}
use Rattle.std.proofs.lemmas.Bool.Decides.{nat_tests}
use Rattle.grid_records_estimate.specs.declared.need.Need.{Need}
use Rattle.grid_records_estimate.specs.Estimates.{TrackNeeds, least_size, length_at, need_at, needs_at, needs_of_length, spanning_needs}
use Rattle.grid_records_estimate.specs.Collecting.{all_needs, clipped}
use Rattle.grid_records_estimate.proofs.Counting.{count, once, same, same-true}
use Rattle.grid_records_estimate.proofs.Each.{Each, Each-flat_map, Each-map}
use Rattle.grid_records_estimate.proofs.Order.{Le, Sorted, Sorted-append}
use Rattle.grid_records_estimate.proofs.Totalling.{IsMonoid, greatest-total, maxima, sums, total_by, total_by-filter, total_by-flat_map, total_by-map, total_by-none, total_by-same, total_by-single}

-- ---- in order

pub Sorted-flat_map : (P : ℕ → Need → Type 0) (f : ℕ → List Need) → ((k : ℕ) → Sorted (f k)) → ((k : ℕ) → Each (P k) (f k))
    → ((j k : ℕ) (a b : Need) → j < k → P j a → P k b → Le a b) → (a n : ℕ) → Sorted (flat_map f (range_with_len a n))
Sorted-flat_map P f s e le a zero = tt
Sorted-flat_map P f s e le a (suc n) =
    Sorted-append (f a) (flat_map f (range_with_len (a + 1) n)) (s a) (Sorted-flat_map P f s e le (a + 1) n)
    (Each-map (P a) (λ x. Each (Le x) (flat_map f (range_with_len (a + 1) n)))
    (λ x p. Each-flat_map (Le x) f (a + 1) n (λ k low high. let above : a < k = omega arith in Each-map (P k) (Le x) (λ y q. le a k x y above p q) (f k) (e k)))
    (f a) (e a))

map-filter : {X : Type 0} (g : ℕ → X) (p : ℕ → Bool) (xs : List ℕ) → map g (filter p xs) ≡ flat_map (λ x. if p x then g x ∷ [] else []) xs
map-filter g p [] = refl
map-filter {X} g p (x ∷ xs) = step (p x) refl (map-filter g p xs) where
  step : (b : Bool) → p x ≡ b → map g (filter p xs) ≡ flat_map (λ y. if p y then g y ∷ [] else []) xs
      → map g (filter p (x ∷ xs)) ≡ (if p x then g x ∷ [] else []) ++ flat_map (λ y. if p y then g y ∷ [] else []) xs
  step true e rest = rw e (ap (λ ys. g x ∷ ys) rest)
  step false e rest = rw e rest

module _ (table : TrackNeeds) where
  -- one cross track of a track
  piece : ℕ → ℕ → ℕ → List Need
  piece n track cross_track = if table.is_visible track cross_track && length_at table track cross_track == n then need_at table track cross_track ∷ [] else []

  needs_at-pieces : (n track : ℕ) → needs_at table n track ≡ flat_map (piece n track) (range_with_len 0 table.cross_tracks)
  unfolding piece
  needs_at-pieces n track = map-filter (need_at table track) (λ cross_track. table.is_visible track cross_track && length_at table track cross_track == n) (range_with_len 0 table.cross_tracks)

  record StandsAt (n track cross_track : ℕ) (need : Need) : Type 0 where
    pub length : need.length ≡ n
    pub first : need.first ≡ track
    pub cross_track_is : need.cross_track ≡ cross_track

  Each-piece : (n track cross_track : ℕ) → Each (StandsAt n track cross_track) (piece n track cross_track)
  unfolding piece
  Each-piece n track cross_track = step (table.is_visible track cross_track && length_at table track cross_track == n) refl where
    step : (b : Bool) → (table.is_visible track cross_track && length_at table track cross_track == n) ≡ b
        → Each (StandsAt n track cross_track) (if table.is_visible track cross_track && length_at table track cross_track == n then need_at table track cross_track ∷ [] else [])
    step true e = rw e (record { length = grind (arith, nat_tests, e); first = refl; cross_track_is = refl }, tt)
    step false e = rw e tt

  Sorted-piece : (n track cross_track : ℕ) → Sorted (piece n track cross_track)
  unfolding piece
  Sorted-piece n track cross_track = step (table.is_visible track cross_track && length_at table track cross_track == n) refl where
    step : (b : Bool) → (table.is_visible track cross_track && length_at table track cross_track == n) ≡ b
        → Sorted (if table.is_visible track cross_track && length_at table track cross_track == n then need_at table track cross_track ∷ [] else [])
    step true e = rw e (tt, tt)
    step false e = rw e tt

  Sorted-needs_at : (n track : ℕ) → Sorted (needs_at table n track)
  Sorted-needs_at n track =
      let P : List Need → Type 0 = λ xs. Sorted xs in
      subst P (sym (needs_at-pieces n track))
      (Sorted-flat_map (StandsAt n track) (piece n track) (Sorted-piece n track) (Each-piece n track)
      (λ j k a b below p q. record {
        length = let x = p.length in let y = q.length in omega arith;
        first = λ _. let x = p.first in let y = q.first in omega arith;
        cross_track = λ _ _. let x = p.cross_track_is in let y = q.cross_track_is in omega arith;
        size = λ _ _ c. let x = p.cross_track_is in let y = q.cross_track_is in absurd (omega arith);
      })
      0 table.cross_tracks)

  Each-needs_at : (n track : ℕ) → Each (λ need. (need.length ≡ n) × (need.first ≡ track)) (needs_at table n track)
  Each-needs_at n track =
      let Q : Need → Type 0 = λ need. (need.length ≡ n) × (need.first ≡ track) in
      let P : List Need → Type 0 = λ xs. Each Q xs in
      subst P (sym (needs_at-pieces n track))
      (Each-flat_map Q (piece n track) 0 table.cross_tracks (λ k low high. Each-map (StandsAt n track k) Q (λ x p. (p.length, p.first)) (piece n track k) (Each-piece n track k)))

  Sorted-needs_of_length : (n : ℕ) → Sorted (needs_of_length table n)
  Sorted-needs_of_length n =
      Sorted-flat_map (λ track need. (need.length ≡ n) × (need.first ≡ track)) (needs_at table n) (Sorted-needs_at n) (Each-needs_at n)
      (λ j k a b below p q.
      let l : a.length ≡ n = p.0 in let m : b.length ≡ n = q.0 in let f : a.first ≡ j = p.1 in let g : b.first ≡ k = q.1 in
      record { length = omega arith; first = λ _. omega arith; cross_track = λ _ h. absurd (omega arith); size = λ _ h _. absurd (omega arith) })
      0 table.tracks

  Each-needs_of_length : (n : ℕ) → Each (λ need. need.length ≡ n) (needs_of_length table n)
  Each-needs_of_length n =
      Each-flat_map (λ need. need.length ≡ n) (needs_at table n) 0 table.tracks
      (λ k low high. Each-map (λ need. (need.length ≡ n) × (need.first ≡ k)) (λ need. need.length ≡ n) (λ x p. p.0) (needs_at table n k) (Each-needs_at n k))

  pub Sorted-spanning_needs : Sorted (spanning_needs table)
  Sorted-spanning_needs =
      Sorted-flat_map (λ n need. need.length ≡ n) (needs_of_length table) Sorted-needs_of_length Each-needs_of_length
      (λ j k a b below l m. record { length = omega arith; first = λ h. absurd (omega arith); cross_track = λ h _. absurd (omega arith); size = λ h _ _. absurd (omega arith) })
      2 (table.tracks - 1)

  -- ---- totals of a measure

  module _ (op : ℕ → ℕ → ℕ) (m : IsMonoid op) (f : Need → ℕ) where
    total_by-needs_at : (n track : ℕ) → total_by op f (needs_at table n track)
        ≡ total_by op (λ cross_track. if table.is_visible track cross_track && length_at table track cross_track == n then f (need_at table track cross_track) else 0) (range_with_len 0 table.cross_tracks)
    total_by-needs_at n track =
        let p : ℕ → Bool = λ cross_track. table.is_visible track cross_track && length_at table track cross_track == n in
        total_by-map op m f (need_at table track) (filter p (range_with_len 0 table.cross_tracks))
        ∙ total_by-filter op m (λ cross_track. f (need_at table track cross_track)) p (range_with_len 0 table.cross_tracks)

    total_by-needs_of_length : (n : ℕ) → total_by op f (needs_of_length table n)
        ≡ total_by op (λ track. total_by op (λ cross. if table.is_visible track cross && length_at table track cross == n then f (need_at table track cross) else 0) (range_with_len 0 table.cross_tracks)) (range_with_len 0 table.tracks)
    total_by-needs_of_length n =
        total_by-flat_map op m f (needs_at table n) (range_with_len 0 table.tracks)
        ∙ total_by-same op m (λ track. total_by op f (needs_at table n track)) _ (total_by-needs_at n) (range_with_len 0 table.tracks)

    if-visible : (need : Need) (b : Bool) → total_by op (λ x. f (clipped table.tracks x)) (if b then need ∷ [] else []) ≡ (if b then f (clipped table.tracks need) else 0)
    if-visible need true = m.right (f (clipped table.tracks need))
    if-visible need false = refl

    -- of all needs, clipped
    pub total_by-all_needs : total_by op (λ x. f (clipped table.tracks x)) (all_needs table)
        ≡ total_by op (λ track. total_by op (λ cross_track. if table.is_visible track cross_track then f (need_at table track cross_track) else 0) (range_with_len 0 table.cross_tracks)) (range_with_len 0 table.tracks)
    total_by-all_needs =
        let raw : ℕ → ℕ → Need = λ track cross_track. record { length = table.span track cross_track; first = track; cross_track = cross_track; size = table.need track cross_track } in
        let row : ℕ → List Need = λ track. flat_map (λ cross_track. if table.is_visible track cross_track then raw track cross_track ∷ [] else []) (range_with_len 0 table.cross_tracks) in
        let g : Need → ℕ = λ x. f (clipped table.tracks x) in
        total_by-flat_map op m g row (range_with_len 0 table.tracks)
        ∙ total_by-same op m (λ track. total_by op g (row track)) _
        (λ track. total_by-flat_map op m g (λ cross_track. if table.is_visible track cross_track then raw track cross_track ∷ [] else []) (range_with_len 0 table.cross_tracks)
        ∙ total_by-same op m (λ cross_track. total_by op g (if table.is_visible track cross_track then raw track cross_track ∷ [] else [])) _
        (λ cross_track. if-visible (raw track cross_track) (table.is_visible track cross_track)) (range_with_len 0 table.cross_tracks))
        (range_with_len 0 table.tracks)

  -- ---- how often a need is among them

  -- where it is of this length, looking at such needs alone makes no difference
  of_length : (n : Need) (track cross_track : ℕ)
      → (if table.is_visible track cross_track && length_at table track cross_track == n.length then once n (need_at table track cross_track) else 0)
      ≡ (if table.is_visible track cross_track then once n (need_at table track cross_track) else 0)
  of_length n track cross_track = step (table.is_visible track cross_track) (same n (need_at table track cross_track)) refl where
    both : (b : Bool) → (if b then 0 else 0) ≡ zero
    both true = refl
    both false = refl

    step : (v b : Bool) → same n (need_at table track cross_track) ≡ b
        → (if v && length_at table track cross_track == n.length then once n (need_at table track cross_track) else 0) ≡ (if v then once n (need_at table track cross_track) else 0)
    step false b e = refl
    step true true e =
        let equal : n ≡ need_at table track cross_track = same-true n (need_at table track cross_track) e in
        let long : length_at table track cross_track ≡ n.length = sym (ap (λ x. x.length) equal) in
        let test : (length_at table track cross_track == n.length) ≡ true = grind (arith, nat_tests) in
        rw test refl
    step true false e =
        let none : once n (need_at table track cross_track) ≡ 0 = rw e in
        rw none (both (length_at table track cross_track == n.length))

  -- among all needs, those of its length are as many as in the table
  pub count-all_needs : (n : Need) → total_by (λ x y. x + y) (λ x. once n (clipped table.tracks x)) (all_needs table) ≡ count n (needs_of_length table n.length)
  count-all_needs n =
      total_by-all_needs (λ x y. x + y) sums (once n)
      ∙ sym (total_by-needs_of_length (λ x y. x + y) sums (once n) n.length
      ∙ total_by-same (λ x y. x + y) sums _ _
      (λ track. total_by-same (λ x y. x + y) sums
      (λ cross_track. if table.is_visible track cross_track && length_at table track cross_track == n.length then once n (need_at table track cross_track) else 0)
      (λ cross_track. if table.is_visible track cross_track then once n (need_at table track cross_track) else 0)
      (of_length n track) (range_with_len 0 table.cross_tracks))
      (range_with_len 0 table.tracks))

  -- a need of another length is not among those of this one
  count-other_length : (n : Need) (j : ℕ) → j ≢ n.length → count n (needs_of_length table j) ≡ 0
  count-other_length n j other = none (needs_of_length table j) (Each-needs_of_length j) where
    none : (xs : List Need) → Each (λ need. need.length ≡ j) xs → count n xs ≡ 0
    none [] h = refl
    none (x ∷ xs) h =
        let is : x.length ≡ j = h.0 in
        let test : (n.length == x.length) ≡ false = grind (arith, nat_tests) in
        let first : once n x ≡ 0 = rw test in
        ap (λ k. k + count n xs) first ∙ sums.left (count n xs) ∙ none xs h.1

  -- no need is longer than the table
  count-too_long : (n : Need) → table.tracks < n.length → count n (needs_of_length table n.length) ≡ 0
  count-too_long n long =
      total_by-needs_of_length (λ x y. x + y) sums (once n) n.length
      ∙ total_by-none (λ x y. x + y) sums _
      (λ track. total_by-none (λ x y. x + y) sums
      (λ cross_track. if table.is_visible track cross_track && length_at table track cross_track == n.length then once n (need_at table track cross_track) else 0)
      (λ cross_track.
      let short : (length_at table track cross_track == n.length) ≡ false = grind (arith, nat_tests) in
      step (table.is_visible track cross_track) (length_at table track cross_track == n.length) (once n (need_at table track cross_track)) short)
      (range_with_len 0 table.cross_tracks))
      (range_with_len 0 table.tracks) where
        step : (v b : Bool) (k : ℕ) → b ≡ false → (if v && b then k else 0) ≡ 0
        step true b k e = rw e refl
        step false b k e = refl

  pub count-spanning_needs : (n : Need) → count n (spanning_needs table) ≡ (if nat_lt n.length 2 then 0 else count n (needs_of_length table n.length))
  count-spanning_needs n =
      total_by-flat_map (λ x y. x + y) sums (once n) (needs_of_length table) (range_with_len 2 (table.tracks - 1))
      ∙ total_by-single (λ x y. x + y) sums (λ j. count n (needs_of_length table j)) n.length (count-other_length n) 2 (table.tracks - 1)
      ∙ step (nat_lt n.length 2) (nat_lt n.length (2 + (table.tracks - 1))) refl refl where
        step : (b d : Bool) → nat_lt n.length 2 ≡ b → nat_lt n.length (2 + (table.tracks - 1)) ≡ d
            → (if b then 0 else if d then count n (needs_of_length table n.length) else 0) ≡ (if b then 0 else count n (needs_of_length table n.length))
        step true d e f = refl
        step false true e f = refl
        step false false e f =
            let long : table.tracks < n.length = grind (arith, nat_tests) in
            sym (count-too_long n long)

  -- ---- the least sizes

  -- how much a need of one track requires of a track
  abbrev pub single_size : ℕ → Need → ℕ
  single_size track need = if need.length == 1 && need.first == track then need.size else 0

  pub least-all_needs : (track : ℕ) → track < table.tracks → total_by (λ x y. max x y) (λ x. single_size track (clipped table.tracks x)) (all_needs table) ≡ least_size table track
  least-all_needs track below =
      total_by-all_needs (λ x y. max x y) maxima (single_size track)
      ∙ total_by-single (λ x y. max x y) maxima of_track track (λ j other. total_by-none (λ x y. max x y) maxima
      (λ cross_track. if table.is_visible j cross_track then single_size track (need_at table j cross_track) else 0)
      (λ cross_track. elsewhere j cross_track other (table.is_visible j cross_track)) (range_with_len 0 table.cross_tracks)) 0 table.tracks
      ∙ inside ∙ total_by-same (λ x y. max x y) maxima
      (λ cross_track. if table.is_visible track cross_track then single_size track (need_at table track cross_track) else 0)
      (λ cross_track. if table.is_visible track cross_track && length_at table track cross_track == 1 then (need_at table track cross_track).size else 0)
      (λ cross_track. alone cross_track (table.is_visible track cross_track)) (range_with_len 0 table.cross_tracks)
      ∙ sym (total_by-needs_at (λ x y. max x y) maxima (λ need. need.size) 1 track)
      ∙ sym (greatest-total (λ need. need.size) (needs_at table 1 track)) where
        of_track : ℕ → ℕ
        of_track j = total_by (λ x y. max x y) (λ cross_track. if table.is_visible j cross_track then single_size track (need_at table j cross_track) else 0) (range_with_len 0 table.cross_tracks)

        elsewhere : (j cross_track : ℕ) → j ≢ track → (b : Bool) → (if b then single_size track (need_at table j cross_track) else 0) ≡ 0
        elsewhere j cross_track other true =
            grind (arith, nat_tests)
        elsewhere j cross_track other false = refl

        inside : (if nat_lt track 0 then 0 else if nat_lt track (0 + table.tracks) then of_track track else 0) ≡ of_track track
        inside = grind (arith, nat_tests)

        alone : (cross_track : ℕ) (b : Bool) → (if b then single_size track (need_at table track cross_track) else 0) ≡ (if b && length_at table track cross_track == 1 then table.need track cross_track else 0)
        alone cross_track true = grind (arith, nat_tests)
        alone cross_track false = refl
