-- Where rows and columns are.
use Rattle.std.proofs.Common.{◌≡◌, ℕ, zero, suc, ◌+◌, ◌-◌, ◌<◌, ◌≤◌, Bool, true, false, cond, List, [], ◌∷◌, ◌++◌, length, sum, take, drop, get_or, refl, ap, ◌∙◌, arith, add-one, length-append}
use Rattle.std.specs.Prelude.{nat_lt}
use Rattle.std.specs.List.{filter, range_with_len}
use Rattle.std.proofs.lemmas.Bool.Decides.{nat_tests}
use Rattle.std.proofs.lemmas.List.{drop_more, get_or-drop, length-drop}
use Rattle.std.proofs.lemmas.List.Elements.{filter-append}
use Rattle.std.proofs.lemmas.List.Sums.{sum_by_more}
use Rattle.papergrid_picture.specs.Frame.{Tracks, thickness, boundary_at, track_at, stretch, Boundary, Row, InMargin, kind_from, line_kind}

-- ---- numbers in turn

pub range_with_len-more : (a n : ℕ) → range_with_len a (n + 1) ≡ range_with_len a n ++ (a + n) ∷ []
range_with_len-more a n = ap (range_with_len a) (add-one n) ∙ by a n
  where
    by : (a n : ℕ) → range_with_len a (suc n) ≡ range_with_len a n ++ (a + n) ∷ []
    by a zero = let same : a ≡ a + 0 = omega arith in ap (λ b. b ∷ []) same
    by a (suc n) = let same : (a + 1) + n ≡ a + suc n = omega arith in ap (λ bs. a ∷ bs) (by (a + 1) n) ∙ ap (λ b. a ∷ (range_with_len (a + 1) n ++ b ∷ [])) same

range_with_len-parted : (a k m : ℕ) → range_with_len a (k + suc m) ≡ range_with_len a k ++ (a + k) ∷ range_with_len (a + k + 1) m
range_with_len-parted a zero m =
    let same : a ≡ a + 0 = omega arith in
    let all : 0 + suc m ≡ suc m = omega arith in
    ap (range_with_len a) all ∙ ap (λ b. b ∷ range_with_len (b + 1) m) same
range_with_len-parted a (suc k) m =
    let same : a + 1 + k ≡ a + suc k = omega arith in
    let all : suc k + suc m ≡ suc (k + suc m) = omega arith in
    ap (range_with_len a) all ∙ ap (λ xs. a ∷ xs) (range_with_len-parted (a + 1) k m) ∙ ap (λ b. a ∷ (range_with_len (a + 1) k ++ b ∷ range_with_len (b + 1) m)) same

-- the first n numbers are those below k, k, and those after it
pub range-at : (k n : ℕ) → k < n → range_with_len 0 n ≡ range_with_len 0 k ++ k ∷ range_with_len (k + 1) (n - (k + 1))
range-at k n h =
    let all : n ≡ k + suc (n - (k + 1)) = omega arith in
    let place : 0 + k ≡ k = omega arith in
    ap (range_with_len 0) all ∙ range_with_len-parted 0 k (n - (k + 1)) ∙ ap (λ b. range_with_len 0 k ++ b ∷ range_with_len (b + 1) (n - (k + 1))) place

-- how many of n boundaries from one on are there
abbrev count : (ℕ → Bool) → ℕ → ℕ → ℕ
count has first n = length (filter has (range_with_len first n))

one : (has : ℕ → Bool) (b : ℕ) → length (filter has (b ∷ [])) ≡ thickness (has b)
one has b = by (has b)
  where
    by : (there : Bool) → length (cond there (b ∷ []) []) ≡ thickness there
    by true = refl
    by false = refl

count-more : (has : ℕ → Bool) (first n : ℕ) → count has first (n + 1) ≡ count has first n + thickness (has (first + n))
count-more has first n =
    ap (λ bs. length (filter has bs)) (range_with_len-more first n)
    ∙ (ap length (filter-append has (range_with_len first n) ((first + n) ∷ []))
    ∙ (length-append (filter has (range_with_len first n)) (filter has ((first + n) ∷ []))
    ∙ ap (λ k. count has first n + k) (one has (first + n))))

module _ (tracks : Tracks) where
  -- after a track comes the next boundary
  pub boundary-next : (i : ℕ) → i < length tracks.sizes → boundary_at tracks (i + 1) ≡ track_at tracks i + get_or tracks.sizes i 0
  boundary-next i below =
      let sizes : sum (take (i + 1) tracks.sizes) ≡ sum (take i tracks.sizes) + get_or tracks.sizes i 0 = sum_by_more (λ x. x) tracks.sizes i 0 below in
      let counts : count tracks.has_boundary 0 (i + 1) ≡ count tracks.has_boundary 0 i + thickness (tracks.has_boundary (0 + i)) = count-more tracks.has_boundary 0 i in
      let same : thickness (tracks.has_boundary (0 + i)) ≡ thickness (tracks.has_boundary i) = (let e : 0 + i ≡ i = omega arith in ap (λ k. thickness (tracks.has_boundary k)) e) in
      omega (arith, sizes, counts, same)

  pub boundary-first : boundary_at tracks 0 ≡ tracks.margin
  boundary-first = omega arith

  -- boundaries are in their order
  pub boundary-order : (i n : ℕ) → i + n ≤ length tracks.sizes → boundary_at tracks i ≤ boundary_at tracks (i + n)
  boundary-order i zero inside = let e : i ≡ i + 0 = omega arith in omega (arith, ap (boundary_at tracks) e)
  boundary-order i (suc n) inside =
      let e : i + n + 1 ≡ i + suc n = omega arith in
      omega (arith, boundary-order i n (omega arith), boundary-next (i + n) (omega arith), ap (boundary_at tracks) e)

  pub boundary-bounded : (i : ℕ) → i ≤ length tracks.sizes → boundary_at tracks i ≤ boundary_at tracks (length tracks.sizes)
  boundary-bounded i inside =
      let e : i + (length tracks.sizes - i) ≡ length tracks.sizes = omega (arith, inside) in
      omega (arith, boundary-order i (length tracks.sizes - i) (omega (arith, e)), ap (boundary_at tracks) e)

  -- a stretch of tracks ends where the boundary after it begins
  pub boundary-behind : (first n : ℕ) → first + (n + 1) ≤ length tracks.sizes → boundary_at tracks (first + (n + 1)) ≡ track_at tracks first + stretch tracks first (n + 1)
  boundary-behind first zero inside =
      let one_more : sum (take 1 (drop first tracks.sizes)) ≡ sum (take 0 (drop first tracks.sizes)) + get_or (drop first tracks.sizes) 0 0 = sum_by_more (λ x. x) (drop first tracks.sizes) 0 0 (omega (arith, length-drop first tracks.sizes)) in
      let e : first + 0 ≡ first = omega arith in
      omega (arith, one_more, boundary-next first (omega arith), get_or-drop first tracks.sizes 0 0, ap (λ k. get_or tracks.sizes k 0) e)
  boundary-behind first (suc n) inside =
      let e : first + (n + 1) + 1 ≡ first + (suc n + 1) = omega arith in
      let sizes : sum (take (suc n + 1) (drop first tracks.sizes)) ≡ sum (take (suc n) (drop first tracks.sizes)) + get_or (drop first tracks.sizes) (suc n) 0 = sum_by_more (λ x. x) (drop first tracks.sizes) (suc n) 0 (omega (arith, length-drop first tracks.sizes)) in
      let counts : count tracks.has_boundary (first + 1) (n + 1) ≡ count tracks.has_boundary (first + 1) n + thickness (tracks.has_boundary (first + 1 + n)) = count-more tracks.has_boundary (first + 1) n in
      let here : first + 1 + n ≡ first + (n + 1) = omega arith in
      let there : first + suc n ≡ first + (n + 1) = omega arith in
      let len : suc n ≡ n + 1 = omega arith in
      let off : suc n + 1 - 1 ≡ n + 1 = omega arith in
      let off2 : n + 1 - 1 ≡ n = omega arith in
      let before : boundary_at tracks (first + (n + 1)) ≡ track_at tracks first + stretch tracks first (n + 1) = boundary-behind first n (omega arith) in
      omega (
        arith,
        sizes,
        counts,
        before,
        boundary-next (first + (n + 1)) (omega arith),
        get_or-drop first tracks.sizes (suc n) 0,
        ap (λ k. get_or tracks.sizes k 0) there,
        ap (λ k. thickness (tracks.has_boundary k)) here,
        ap (boundary_at tracks) e,
        ap (λ k. sum (take k (drop first tracks.sizes))) len,
        ap (count tracks.has_boundary (first + 1)) off,
        ap (count tracks.has_boundary (first + 1)) off2,
      )

-- ---- what lines show

kind-test : (has : ℕ → Bool) (i h : ℕ) (hs : List ℕ) (y z : ℕ) → y ≡ thickness (has i) + (h + z) → kind_from has i (h ∷ hs) y ≡ kind_from has (i + 1) hs z
kind-test has i h hs y z is =
    let past : nat_lt y (thickness (has i)) ≡ false = grind (arith, nat_tests, is) in
    let off : y - thickness (has i) ≡ h + z = omega (arith, is) in
    let past_row : nat_lt (h + z) h ≡ false = grind (arith, nat_tests) in
    let rest : h + z - h ≡ z = omega arith in
    ap (λ b. cond b (Boundary i) (cond (nat_lt (y - thickness (has i)) h) (Row i) (kind_from has (i + 1) hs (y - thickness (has i) - h)))) past
    ∙ (ap (λ k. cond (nat_lt k h) (Row i) (kind_from has (i + 1) hs (k - h))) off
    ∙ (ap (λ b. cond b (Row i) (kind_from has (i + 1) hs (h + z - h))) past_row
    ∙ ap (kind_from has (i + 1) hs) rest))

module _ (rows : Tracks) where
  -- boundary i and what follows, from the line where boundary i is
  kind-drop : (i z : ℕ) → i ≤ length rows.sizes → kind_from rows.has_boundary 0 rows.sizes (boundary_at rows i - rows.margin + z) ≡ kind_from rows.has_boundary i (drop i rows.sizes) z
  kind-drop zero z inside = let e : boundary_at rows 0 - rows.margin + z ≡ z = omega arith in ap (kind_from rows.has_boundary 0 rows.sizes) e
  kind-drop (suc i) z inside =
      let h = get_or rows.sizes i 0 in
      let same : i + 1 ≡ suc i = omega arith in
      let next : boundary_at rows (i + 1) ≡ track_at rows i + h = boundary-next rows i (omega arith) in
      let e : boundary_at rows (suc i) - rows.margin + z ≡ boundary_at rows i - rows.margin + (thickness (rows.has_boundary i) + (h + z)) = omega (arith, next, ap (boundary_at rows) same) in
      ap (kind_from rows.has_boundary 0 rows.sizes) e
      ∙ (kind-drop i (thickness (rows.has_boundary i) + (h + z)) (omega arith)
      ∙ (ap (λ hs. kind_from rows.has_boundary i hs (thickness (rows.has_boundary i) + (h + z))) (drop_more rows.sizes i 0 (omega arith))
      ∙ (kind-test rows.has_boundary i h (drop (i + 1) rows.sizes) (thickness (rows.has_boundary i) + (h + z)) z refl
      ∙ ap (λ k. kind_from rows.has_boundary k (drop k rows.sizes) z) same)))

  kind-past : (y : ℕ) → rows.margin ≤ y → line_kind rows y ≡ kind_from rows.has_boundary 0 rows.sizes (y - rows.margin)
  kind-past y past =
      let test : nat_lt y rows.margin ≡ false = grind (arith, nat_tests, past) in
      ap (λ b. cond b InMargin (kind_from rows.has_boundary 0 rows.sizes (y - rows.margin))) test

  kind-at : (i z y : ℕ) → i ≤ length rows.sizes → y ≡ boundary_at rows i + z → line_kind rows y ≡ kind_from rows.has_boundary i (drop i rows.sizes) z
  kind-at i z y inside is =
      let e : y - rows.margin ≡ boundary_at rows i - rows.margin + z = omega (arith, is) in
      kind-past y (omega (arith, is)) ∙ (ap (kind_from rows.has_boundary 0 rows.sizes) e ∙ kind-drop i z inside)

  -- a line of the margin at the top
  pub kind-above : (y : ℕ) → y < rows.margin → line_kind rows y ≡ InMargin
  kind-above y above =
      let test : nat_lt y rows.margin ≡ true = grind (arith, nat_tests, above) in
      ap (λ b. cond b InMargin (kind_from rows.has_boundary 0 rows.sizes (y - rows.margin))) test

  first-line : (i : ℕ) (hs : List ℕ) → rows.has_boundary i ≡ true → kind_from rows.has_boundary i hs 0 ≡ Boundary i
  first-line i [] there = ap (λ b. cond (nat_lt 0 (thickness b)) (Boundary i) InMargin) there
  first-line i (h ∷ hs) there = ap (λ b. cond (nat_lt 0 (thickness b)) (Boundary i) (cond (nat_lt (0 - thickness b) h) (Row i) (kind_from rows.has_boundary (i + 1) hs (0 - thickness b - h)))) there

  -- the line of a boundary that exists
  pub kind-boundary : (i : ℕ) → i ≤ length rows.sizes → rows.has_boundary i ≡ true → line_kind rows (boundary_at rows i) ≡ Boundary i
  kind-boundary i inside there = kind-at i 0 (boundary_at rows i) inside (omega arith) ∙ first-line i (drop i rows.sizes) there

  -- a line of a row
  pub kind-row : (i y : ℕ) → i < length rows.sizes → track_at rows i ≤ y → y < track_at rows i + get_or rows.sizes i 0 → line_kind rows y ≡ Row i
  kind-row i y inside from before =
      let t = thickness (rows.has_boundary i) in
      let h = get_or rows.sizes i 0 in
      let hs = drop (i + 1) rows.sizes in
      let z = y - boundary_at rows i in
      let past : nat_lt z t ≡ false = grind (arith, nat_tests, from) in
      let here : nat_lt (z - t) h ≡ true = grind (arith, nat_tests, from, before) in
      kind-at i z y (omega arith) (omega (arith, from))
      ∙ (ap (λ l. kind_from rows.has_boundary i l z) (drop_more rows.sizes i 0 inside)
      ∙ (ap (λ b. cond b (Boundary i) (cond (nat_lt (z - t) h) (Row i) (kind_from rows.has_boundary (i + 1) hs (z - t - h)))) past
      ∙ ap (λ b. cond b (Row i) (kind_from rows.has_boundary (i + 1) hs (z - t - h))) here))

  -- a line after the last boundary
  pub kind-below : (y : ℕ) → track_at rows (length rows.sizes) ≤ y → line_kind rows y ≡ InMargin
  kind-below y past =
      let n = length rows.sizes in
      let z = y - boundary_at rows n in
      let test : nat_lt z (thickness (rows.has_boundary n)) ≡ false = grind (arith, nat_tests, past) in
      kind-at n z y (omega arith) (omega (arith, past))
      ∙ (ap (λ l. kind_from rows.has_boundary n l z) (drop-whole rows.sizes)
      ∙ ap (λ b. cond b (Boundary n) InMargin) test)
    where
      drop-whole : (hs : List ℕ) → drop (length hs) hs ≡ []
      drop-whole [] = refl
      drop-whole (h ∷ hs) = drop-whole hs
