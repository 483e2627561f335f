-- Sizes in which a need was met hold it, and so do all that are no less.
use Rattle.std.proofs.Common.{◌≡◌, ℕ, zero, suc, ◌+◌, ◌-◌, ◌*◌, ◌/◌, ◌%◌, ◌==◌, ◌&&◌, ◌<◌, ◌≤◌, ◌⊎◌, inl, inr, Bool, true, false, min, List, [], ◌∷◌, ◌++◌, map, length, sum, take, drop, get_or, fold, refl, ap, sym, ◌∙◌, subst, arith, length-drop}
use Rattle.std.specs.List.{filter, range_with_len}
use Rattle.std.proofs.Math.Nat.{div-add-mod}
use Rattle.std.proofs.Math.Seq.{drop-cons}
use Rattle.std.proofs.lemmas.Bool.{cases_lt}
use Rattle.std.proofs.lemmas.Bool.Decides.{nat_tests}
use Rattle.std.proofs.lemmas.List.{drop_at, length-take-le, take_at}
use Rattle.std.proofs.lemmas.List.FromFn.{get_or-map-range_with_len, length-map-range_with_len}
use Rattle.std.proofs.lemmas.List.Sums.{sum_by-cons}
use Rattle.grid_records_traits.specs.Rows.{evened}
use Rattle.grid_records_estimate.specs.declared.need.Need.{Need}
use Rattle.grid_records_estimate.specs.Estimates.{TrackNeeds, boundaries_within, greatest, least_size, length_at, meet, need_at, needs_at, needs_of_length, spanning_needs, track_sizes, with_shares}
use Rattle.grid_records_estimate.specs.Room.{LeaveRoom, room_in_tracks}
use Rattle.grid_records_estimate.specs.Sizes.{table_heights, table_widths}
use Rattle.grid_records_estimate.specs.Sizing.{TableSizing, column_needs, row_needs}
use Rattle.grid_records_estimate.proofs.Each.{Each, Each-flat_map, Each-map}
use Rattle.grid_records_estimate.proofs.Growing.{Grows, Grows-meet_all}
use Rattle.grid_records_estimate.proofs.Members.{Each-filtered, Each-from_filtered, Each-from_flat_map, Each-from_mapped, Each-from_range, Each-mapped}
use Rattle.grid_records_estimate.proofs.DividedShares.{length-with_shares}
use Rattle.grid_records_estimate.proofs.Singles.{length-meet}

-- ---- sums

sum-added : (q : ℕ) (xs : List ℕ) → sum (map (λ x. x + q) xs) ≡ sum xs + length xs * q
sum-added q [] = omega arith
sum-added q (x ∷ xs) =
    let rest = sum-added q xs in
    let added = sum_by-cons (λ n. n) (x + q) (map (λ y. y + q) xs) in
    let whole = sum_by-cons (λ n. n) x xs in
    omega (arith, rest, added, whole)

all_shared : (x q r n len s t : ℕ) → suc len * q + r ≡ n → t ≡ s + len * q → x + q + r + t ≡ x + s + n
all_shared x q r n len s t whole rest = omega arith

sum-with_shares : (n : ℕ) (xs : List ℕ) → 0 < length xs → sum (with_shares n xs) ≡ sum xs + n
sum-with_shares n [] h = absurd (omega arith)
sum-with_shares n (x ∷ xs) h =
    let count = suc (length xs) in
    let others = map (λ other. other + n / count) xs in
    sum_by-cons (λ k. k) (x + n / count + n % count) others
    ∙ all_shared x (n / count) (n % count) n (length xs) (sum xs) (sum others) (div-add-mod n count) (sum-added (n / count) xs)
    ∙ ap (λ k. k + n) (sym (sum_by-cons (λ k. k) x xs))

Grows-sum : (xs ys : List ℕ) → Grows xs ys → sum xs ≤ sum ys
Grows-sum [] [] g = omega arith
Grows-sum [] (y ∷ ys) g = absurd g
Grows-sum (x ∷ xs) [] g = absurd g
Grows-sum (x ∷ xs) (y ∷ ys) g =
    let first : x ≤ y = g.0 in
    let rest = Grows-sum xs ys g.1 in
    omega (arith, rest, sum_by-cons (λ n. n) x xs, sum_by-cons (λ n. n) y ys)

Grows-drop : (k : ℕ) (xs ys : List ℕ) → Grows xs ys → Grows (drop k xs) (drop k ys)
Grows-drop zero xs ys g = g
Grows-drop (suc k) [] [] g = tt
Grows-drop (suc k) [] (y ∷ ys) g = absurd g
Grows-drop (suc k) (x ∷ xs) [] g = absurd g
Grows-drop (suc k) (x ∷ xs) (y ∷ ys) g = Grows-drop k xs ys g.1

Grows-take : (k : ℕ) (xs ys : List ℕ) → Grows xs ys → Grows (take k xs) (take k ys)
Grows-take zero xs ys g = tt
Grows-take (suc k) [] [] g = tt
Grows-take (suc k) [] (y ∷ ys) g = absurd g
Grows-take (suc k) (x ∷ xs) [] g = absurd g
Grows-take (suc k) (x ∷ xs) (y ∷ ys) g = (g.0, Grows-take k xs ys g.1)

-- so many sizes from this one on are together no less
Grows-part : (first n : ℕ) (xs ys : List ℕ) → Grows xs ys → sum (take n (drop first xs)) ≤ sum (take n (drop first ys))
Grows-part first n xs ys g = Grows-sum (take n (drop first xs)) (take n (drop first ys)) (Grows-take n (drop first xs) (drop first ys) (Grows-drop first xs ys g))

one_size : (k : ℕ) (xs : List ℕ) → k < length xs → sum (take 1 (drop k xs)) ≡ get_or xs k 0
one_size k xs below =
    let one : sum (get_or xs k 0 ∷ []) ≡ get_or xs k 0 = omega arith in
    ap (λ ys. sum (take 1 ys)) (drop-cons xs k 0 below) ∙ one

-- ---- needs

-- the need is of tracks among so many
abbrev IsAmongst : ℕ → Need → Type 0
IsAmongst tracks need = (0 < need.length) × (need.first + need.length ≤ tracks)

module _ (has_boundary : ℕ → Bool) where
  abbrev HasRoom : List ℕ → Need → Type 0
  HasRoom sizes need = need.size ≤ sum (take need.length (drop need.first sizes)) + boundaries_within has_boundary need

  more : (a b c k : ℕ) → a ≤ b + k → b ≤ c → a ≤ c + k
  more a b c k h g = omega arith

  HasRoom-Grows : (xs ys : List ℕ) (need : Need) → Grows xs ys → HasRoom xs need → HasRoom ys need
  HasRoom-Grows xs ys need g h =
      more need.size (sum (take need.length (drop need.first xs))) (sum (take need.length (drop need.first ys))) (boundaries_within has_boundary need)
      h (Grows-part need.first need.length xs ys g)

  enough : (size held boundaries part : ℕ) → part ≡ held + (size - (held + boundaries)) → size ≤ part + boundaries
  enough size held boundaries part e = omega arith

  HasRoom-meet : (sizes : List ℕ) (need : Need) → IsAmongst (length sizes) need → HasRoom (meet has_boundary sizes need) need
  HasRoom-meet sizes need h =
      let some : 0 < need.length = h.0 in
      let fits : need.first + need.length ≤ length sizes = h.1 in
      let rest = drop need.first sizes in
      let mid = take need.length rest in
      let lack = need.size - (sum mid + boundaries_within has_boundary need) in
      let shared = with_shares lack mid in
      let left = length-drop need.first sizes in
      let long : length mid ≡ need.length = length-take-le need.length rest (omega (arith, left)) in
      let front : length (take need.first sizes) ≡ need.first = length-take-le need.first sizes (omega arith) in
      let dropped : drop need.first (meet has_boundary sizes need) ≡ shared ++ drop need.length rest
      = drop_at (take need.first sizes) (shared ++ drop need.length rest) need.first front in
      let taken : take need.length (shared ++ drop need.length rest) ≡ shared = take_at shared (drop need.length rest) need.length (length-with_shares lack mid ∙ long) in
      let several : 0 < length mid = omega (arith, long) in
      enough need.size (sum mid) (boundaries_within has_boundary need) (sum (take need.length (drop need.first (meet has_boundary sizes need))))
      (ap (λ xs. sum (take need.length xs)) dropped ∙ ap sum taken ∙ sum-with_shares lack mid several)

  -- all of them, met one after the other
  HasRoom-meet_all : (sizes : List ℕ) (needs : List Need) → Each (IsAmongst (length sizes)) needs → Each (HasRoom (fold (meet has_boundary) sizes needs)) needs
  HasRoom-meet_all sizes [] h = tt
  HasRoom-meet_all sizes (need ∷ needs) h =
      let next = meet has_boundary sizes need in
      let P : ℕ → Type 0 = λ n. Each (IsAmongst n) needs in (
        HasRoom-Grows next (fold (meet has_boundary) next needs) need (Grows-meet_all has_boundary next needs) (HasRoom-meet sizes need h.0),
        HasRoom-meet_all next needs (subst P (sym (length-meet has_boundary sizes need)) h.1),
      )

-- ---- the cells of a table

within_greatest : (xs : List Need) → Each (λ need. need.size ≤ greatest (map (λ n. n.size) xs)) xs
within_greatest [] = tt
within_greatest (x ∷ xs) =
    (omega arith, Each-map (λ need. need.size ≤ greatest (map (λ n. n.size) xs)) (λ need. need.size ≤ greatest (map (λ n. n.size) (x ∷ xs))) (λ need h. omega arith) xs (within_greatest xs))

module _ (table : TrackNeeds) where
  abbrev takes : ℕ → ℕ → ℕ → Bool
  takes n track cross_track = table.is_visible track cross_track && length_at table track cross_track == n

  -- what holds of each need of this length at a track holds of that of a visible cell
  at_cell : (P : Need → Type 0) (n track cross_track : ℕ) → cross_track < table.cross_tracks → table.is_visible track cross_track ≡ true → length_at table track cross_track ≡ n
      → Each P (needs_at table n track) → P (need_at table track cross_track)
  at_cell P n track cross_track across seen long h =
      let test : takes n track cross_track ≡ true = grind (arith, nat_tests, seen, long) in
      let Q : ℕ → Type 0 = λ c. takes n track c ≡ true → P (need_at table track c) in
      Each-from_range Q 0 table.cross_tracks cross_track (omega arith) (omega arith)
      (Each-from_filtered (λ c. P (need_at table track c)) (takes n track) (range_with_len 0 table.cross_tracks)
      (Each-from_mapped P (need_at table track) (filter (takes n track) (range_with_len 0 table.cross_tracks)) h)) test

  among-clipped : (n span track : ℕ) → 2 ≤ n → track < table.tracks → min span (table.tracks - track) ≡ n
      → (0 < min span (table.tracks - track)) × (track + min span (table.tracks - track) ≤ table.tracks)
  among-clipped n span track several below same = (omega arith, omega arith)

  among-at : (n track : ℕ) → 2 ≤ n → track < table.tracks → Each (IsAmongst table.tracks) (needs_at table n track)
  among-at n track several below =
      let cross_tracks = filter (takes n track) (range_with_len 0 table.cross_tracks) in
      Each-mapped (IsAmongst table.tracks) (need_at table track) cross_tracks
      (Each-map (λ c. takes n track c ≡ true) (λ c. IsAmongst table.tracks (need_at table track c))
      (λ c e. let same : length_at table track c ≡ n = grind (arith, nat_tests, e) in among-clipped n (table.span track c) track several below same)
      cross_tracks (Each-filtered (takes n track) (range_with_len 0 table.cross_tracks)))

  among-spanning : Each (IsAmongst table.tracks) (spanning_needs table)
  among-spanning =
      Each-flat_map (IsAmongst table.tracks) (needs_of_length table) 2 (table.tracks - 1)
      (λ n low high. Each-flat_map (IsAmongst table.tracks) (needs_at table n) 0 table.tracks (λ track from below. among-at n track low (omega arith)))

  start : List ℕ
  start = map (least_size table) (range_with_len 0 table.tracks)

  length-start : length start ≡ table.tracks
  unfolding start
  length-start = length-map-range_with_len (least_size table) 0 table.tracks

  done : List ℕ
  done = fold (meet table.has_boundary) start (spanning_needs table)

  -- a cell of one track
  room-single : (track cross_track : ℕ) → track < table.tracks → cross_track < table.cross_tracks → table.is_visible track cross_track ≡ true → length_at table track cross_track ≡ 1
      → table.need track cross_track ≤ room_in_tracks table done track cross_track
  unfolding done start
  room-single track cross_track below across seen one =
      let least : table.need track cross_track ≤ least_size table track =
      at_cell (λ need. need.size ≤ least_size table track) 1 track cross_track across seen one (within_greatest (needs_at table 1 track)) in
      let inside : track < length start = omega (arith, length-start) in
      let first : sum (take 1 (drop track start)) ≡ least_size table track =
      one_size track start inside ∙ get_or-map-range_with_len (least_size table) 0 table.tracks track track 0 below (omega arith) in
      let grown = Grows-part track 1 start done (Grows-meet_all table.has_boundary start (spanning_needs table)) in
      let held : table.need track cross_track ≤ sum (take 1 (drop track done)) = omega (arith, least, first, grown) in
      let P : ℕ → Type 0 = λ n. table.need track cross_track ≤ sum (take n (drop track done)) + boundaries_within table.has_boundary (need_at table track cross_track) in
      subst P (sym one) (omega (arith, held))

  -- a cell of several
  room-several : (track cross_track : ℕ) → track < table.tracks → cross_track < table.cross_tracks → table.is_visible track cross_track ≡ true → 2 ≤ length_at table track cross_track
      → table.need track cross_track ≤ room_in_tracks table done track cross_track
  unfolding done start
  room-several track cross_track below across seen several =
      let n = length_at table track cross_track in
      let H : Need → Type 0 = HasRoom table.has_boundary done in
      let P : ℕ → Type 0 = λ k. Each (IsAmongst k) (spanning_needs table) in
      let all : Each H (spanning_needs table) = HasRoom-meet_all table.has_boundary start (spanning_needs table) (subst P (sym length-start) among-spanning) in
      at_cell H n track cross_track across seen refl
      (Each-from_flat_map H (needs_at table n) 0 table.tracks track (omega arith) (omega arith)
      (Each-from_flat_map H (needs_of_length table) 2 (table.tracks - 1) n several (omega arith) all))

  room-cell : (track cross_track : ℕ) → track < table.tracks → cross_track < table.cross_tracks → table.is_visible track cross_track ≡ true → 0 < table.span track cross_track
      → table.need track cross_track ≤ room_in_tracks table done track cross_track
  room-cell track cross_track below across seen some = step (cases_lt 1 (length_at table track cross_track)) where
    step : (1 < length_at table track cross_track) ⊎ (length_at table track cross_track ≤ 1) → table.need track cross_track ≤ room_in_tracks table done track cross_track
    step (inl several) = room-several track cross_track below across seen (omega arith)
    step (inr few) = room-single track cross_track below across seen (omega arith)

  pub LeaveRoom-track_sizes : LeaveRoom table (track_sizes table)
  unfolding track_sizes done start
  LeaveRoom-track_sizes track cross_track below across seen some =
      let test : (table.cross_tracks == 0) ≡ false = grind (arith, nat_tests, across) in
      rw test (room-cell track cross_track below across seen some)

pub LeaveRoom-widths : (sizing : TableSizing) (columns : ℕ) (rows : List (List (List ℕ))) → LeaveRoom (column_needs sizing columns (evened columns rows)) (table_widths sizing columns rows)
unfolding table_widths
LeaveRoom-widths sizing columns rows = LeaveRoom-track_sizes (column_needs sizing columns (evened columns rows))

pub LeaveRoom-heights : (sizing : TableSizing) (columns : ℕ) (rows : List (List (List ℕ))) → LeaveRoom (row_needs sizing columns (evened columns rows)) (table_heights sizing columns rows)
unfolding table_heights
LeaveRoom-heights sizing columns rows = LeaveRoom-track_sizes (row_needs sizing columns (evened columns rows))
