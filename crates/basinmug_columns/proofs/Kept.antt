-- What so many columns of the first and of the last cost.
use Rattle.std.proofs.Common.{◌≡◌, ◌≤◌, ◌<◌, ◌+◌, ◌-◌, ◌∙◌, ◌⊎◌, inl, inr, ap, ap₂, sym, refl, subst, ℕ, zero, suc, Bool, true, false, List, ◌++◌, drop, get_or, length, sum, take, arith, eq-eqb}
use Rattle.std.specs.Prelude.{◌/◌, ◌%◌, nat_le, nat_lt, if◌then◌else◌}
use Rattle.std.proofs.lemmas.Bool.{cases_lt, ne_eqb}
use Rattle.std.proofs.lemmas.Bool.Decides.{nat_tests}
use Rattle.std.proofs.lemmas.List.Sums.{sum_by-append, sum_by-drop_more, sum_by-take-drop, sum_by_more}
use Rattle.basinmug_columns.specs.Shown.{IsGreatestFit, fit_count, greatest, first_count, kept, last_count, next_column, shown_width}

sum-append : (xs ys : List ℕ) → sum (xs ++ ys) ≡ sum xs + sum ys
sum-append = sum_by-append (λ x. x)

take-one : (xs : List ℕ) (i : ℕ) → i < length xs → sum (take (i + 1) xs) ≡ sum (take i xs) + get_or xs i 0
take-one xs i inside = sum_by_more (λ x. x) xs i 0 inside

drop-one : (xs : List ℕ) (i : ℕ) → i < length xs → sum (drop i xs) ≡ get_or xs i 0 + sum (drop (i + 1) xs)
drop-one xs i inside = sum_by-drop_more (λ x. x) xs i 0 inside

-- of the first columns, and of those from another on
abbrev ends : List ℕ → ℕ → ℕ → ℕ
ends xs a d = sum (take a xs ++ drop d xs)

ends-first : (xs : List ℕ) (a d : ℕ) → a < length xs → ends xs (a + 1) d ≡ ends xs a d + get_or xs a 0
ends-first xs a d inside =
    let more = take-one xs a inside in
    let one : sum (take (a + 1) xs ++ drop d xs) ≡ sum (take (a + 1) xs) + sum (drop d xs) = sum-append (take (a + 1) xs) (drop d xs) in
    let other : sum (take a xs ++ drop d xs) ≡ sum (take a xs) + sum (drop d xs) = sum-append (take a xs) (drop d xs) in
    omega (arith, more, one, other)

ends-last : (xs : List ℕ) (a d : ℕ) → d < length xs → ends xs a d ≡ ends xs a (d + 1) + get_or xs d 0
ends-last xs a d inside =
    let more = drop-one xs d inside in
    let one : sum (take a xs ++ drop d xs) ≡ sum (take a xs) + sum (drop d xs) = sum-append (take a xs) (drop d xs) in
    let other : sum (take a xs ++ drop (d + 1) xs) ≡ sum (take a xs) + sum (drop (d + 1) xs) = sum-append (take a xs) (drop (d + 1) xs) in
    omega (arith, more, one, other)

-- one column more costs what the next costs
pub one-more : (xs : List ℕ) (shown : ℕ) → shown < length xs → sum (kept (shown + 1) xs) ≡ sum (kept shown xs) + get_or xs (next_column (length xs) shown) 0
one-more xs shown inside = by (parity (shown % 2) (omega arith))
  where
    parity : (n : ℕ) → n < 2 → (n ≡ 0) ⊎ (n ≡ 1)
    parity zero small = inl refl
    parity (suc zero) small = inr refl
    parity (suc (suc n)) small = absurd (omega arith)

    by : (shown % 2 ≡ 0) ⊎ (shown % 2 ≡ 1) → sum (kept (shown + 1) xs) ≡ sum (kept shown xs) + get_or xs (next_column (length xs) shown) 0
    by (inl even) =
        let a : first_count (shown + 1) ≡ shown / 2 + 1 = omega (arith, even) in
        let b : first_count shown ≡ shown / 2 = omega (arith, even) in
        let c : last_count (shown + 1) ≡ last_count shown = omega (arith, even) in
        let next : next_column (length xs) shown ≡ shown / 2 = ap (λ (t : Bool). if t then shown / 2 else length xs - 1 - shown / 2) (eq-eqb (shown % 2) 0 even) in
        let low : shown / 2 < length xs = omega (arith, inside) in
        ap₂ (ends xs) a (ap (λ (n : ℕ). length xs - n) c) ∙ ends-first xs (shown / 2) (length xs - last_count shown) low
        ∙ ap₂ (λ (m n : ℕ). ends xs m (length xs - last_count shown) + get_or xs n 0) (sym b) (sym next)
    by (inr odd) =
        let a : first_count (shown + 1) ≡ first_count shown = omega (arith, odd) in
        let c : length xs - last_count (shown + 1) ≡ length xs - 1 - shown / 2 = omega (arith, odd) in
        let d : length xs - 1 - shown / 2 + 1 ≡ length xs - last_count shown = omega (arith, odd, inside) in
        let not : shown % 2 ≡ 0 → ⊥ = λ even. omega (arith, even, odd) in
        let next : next_column (length xs) shown ≡ length xs - 1 - shown / 2 = ap (λ (t : Bool). if t then shown / 2 else length xs - 1 - shown / 2) (ne_eqb (shown % 2) 0 not) in
        let low : length xs - 1 - shown / 2 < length xs = omega (arith, inside) in
        ap₂ (ends xs) a c ∙ ends-last xs (first_count shown) (length xs - 1 - shown / 2) low
        ∙ ap₂ (λ (m n : ℕ). ends xs (first_count shown) m + get_or xs n 0) d (sym next)

-- more columns cost no less
pub no-less : (xs : List ℕ) (shown more : ℕ) → shown + more ≤ length xs → sum (kept shown xs) ≤ sum (kept (shown + more) xs)
no-less xs shown zero inside = let same : shown + zero ≡ shown = omega arith in let it : sum (kept (shown + zero) xs) ≡ sum (kept shown xs) = ap (λ (n : ℕ). sum (kept n xs)) same in omega (arith, it)
no-less xs shown (suc more) inside =
    let less : sum (kept shown xs) ≤ sum (kept (shown + more) xs) = no-less xs shown more (omega (arith, inside)) in
    let one = one-more xs (shown + more) (omega (arith, inside)) in
    let same : shown + more + 1 ≡ shown + suc more = omega arith in
    let it : sum (kept (shown + more + 1) xs) ≡ sum (kept (shown + suc more) xs) = ap (λ (n : ℕ). sum (kept n xs)) same in
    omega (arith, less, one, it)

-- all of them cost what all cost
pub all-kept : (xs : List ℕ) → sum (kept (length xs) xs) ≡ sum xs
all-kept xs =
    let same : length xs - last_count (length xs) ≡ first_count (length xs) = omega arith in
    ap (λ (n : ℕ). sum (take (first_count (length xs)) xs ++ drop n xs)) same
    ∙ sum-append (take (first_count (length xs)) xs) (drop (first_count (length xs)) xs) ∙ sum_by-take-drop (λ x. x) xs (first_count (length xs))

-- ---- the greatest number

mark-most : (b : Bool) (mark : ℕ) → (if b then mark else 0) ≤ mark
mark-most true mark = omega arith
mark-most false mark = omega arith

module _ (frame mark : ℕ) (costs : List ℕ) (width : ℕ) where
  -- of all columns
  whole : shown_width frame mark costs (length costs) ≡ frame + sum costs
  whole =
      let none : (if nat_lt (length costs) (length costs) then mark else 0) ≡ 0 = grind (arith, nat_tests) in
      let all = all-kept costs in
      omega (arith, none, all)

  -- of some of them
  some : (shown : ℕ) → shown < length costs → shown_width frame mark costs shown ≡ frame + sum (kept shown costs) + mark
  some shown less = let one : (if nat_lt shown (length costs) then mark else 0) ≡ mark = grind (arith, nat_tests, less) in omega (arith, one)

  pub fit-all : frame ≤ width → sum costs ≤ width - frame → IsGreatestFit frame mark costs width (length costs)
  fit-all room fits = record {
    within = omega arith;
    fits = λ some. omega (arith, whole, room, fits);
    greatest = λ more above within. absurd (omega (arith, above, within));
  }

  pub fit-none : (frame ≤ width → width - frame < sum costs) → (frame ≤ width → width - frame < mark) → IsGreatestFit frame mark costs width 0
  fit-none wide marked = record {
    within = omega arith;
    fits = λ none. absurd (omega (arith, none));
    greatest = λ more above within. by more within (cases_lt more (length costs)) (cases_lt width frame);
  }
    where
      by : (more : ℕ) → more ≤ length costs → (more < length costs) ⊎ (length costs ≤ more) → (width < frame) ⊎ (frame ≤ width) → width < shown_width frame mark costs more
      by more within which (inl narrow) = omega (arith, narrow)
      by more within (inl less) (inr enough) = let is = some more less in let few = marked enough in omega (arith, is, few, enough)
      by more within (inr all) (inr enough) =
          let same : more ≡ length costs = omega (arith, within, all) in
          let many = wide enough in
          subst (λ (n : ℕ). width < shown_width frame mark costs n) (sym same) (omega (arith, whole, many, enough))

  pub fit-some : (shown : ℕ) → frame ≤ width → width - frame < sum costs → mark ≤ width - frame → shown ≤ length costs → sum (kept shown costs) ≤ width - frame - mark
      → (shown < length costs → width - frame - mark < sum (kept (shown + 1) costs)) → IsGreatestFit frame mark costs width shown
  fit-some shown room wide marked within fits more_not = record {
    within = within;
    fits = λ one. let most = mark-most (nat_lt shown (length costs)) mark in omega (arith, most, fits, room, marked);
    greatest = λ more above inside. by more above inside (cases_lt more (length costs));
  }
    where
      by : (more : ℕ) → shown < more → more ≤ length costs → (more < length costs) ⊎ (length costs ≤ more) → width < shown_width frame mark costs more
      by more above inside (inl less) =
          let is = some more less in
          let next : width - frame - mark < sum (kept (shown + 1) costs) = more_not (omega (arith, above, inside)) in
          let far : shown + 1 + (more - (shown + 1)) ≡ more = omega (arith, above) in
          let no : sum (kept (shown + 1) costs) ≤ sum (kept more costs) =
          subst (λ (n : ℕ). sum (kept (shown + 1) costs) ≤ sum (kept n costs)) far (no-less costs (shown + 1) (more - (shown + 1)) (omega (arith, above, inside))) in
          omega (arith, is, next, no, room, marked)
      by more above inside (inr all) =
          let same : more ≡ length costs = omega (arith, inside, all) in
          subst (λ (n : ℕ). width < shown_width frame mark costs n) (sym same) (omega (arith, whole, wide, room))

-- the greatest number that fits is one alone
greatest-same : (test : ℕ → Bool) (shown most : ℕ) → shown ≤ most → (0 < shown → test shown ≡ true) → ((more : ℕ) → shown < more → more ≤ most → test more ≡ false)
    → shown ≡ greatest test most
greatest-same test shown zero within holds fails = omega (arith, within)
greatest-same test shown (suc most) within holds fails =
    by (test (suc most)) refl (cases_lt shown (suc most)) (λ inside. greatest-same test shown most inside holds (λ more above low. fails more above (omega (arith, low))))
  where
    by : (b : Bool) → test (suc most) ≡ b → (shown < suc most) ⊎ (suc most ≤ shown) → (shown ≤ most → shown ≡ greatest test most) → shown ≡ (if b then suc most else greatest test most)
    by true is (inl less) others = absurd (grind (arith, is, fails (suc most) less (omega arith)))
    by true is (inr all) others = omega (arith, within, all)
    by false is (inl less) others = others (omega (arith, less))
    by false is (inr all) others =
        let same : shown ≡ suc most = omega (arith, within, all) in
        let yes : test (suc most) ≡ true = ap test (sym same) ∙ holds (omega (arith, all)) in
        absurd (grind (arith, is, yes))

pub fit-same : (frame mark : ℕ) (costs : List ℕ) (width shown : ℕ) → IsGreatestFit frame mark costs width shown → shown ≡ fit_count frame mark costs width
fit-same frame mark costs width shown is =
    greatest-same (λ some. nat_le (shown_width frame mark costs some) width) shown (length costs) is.within
    (λ some. let fits = is.fits some in grind (arith, nat_tests, fits))
    (λ more above inside. let wide = is.greatest more above inside in grind (arith, nat_tests, wide))
