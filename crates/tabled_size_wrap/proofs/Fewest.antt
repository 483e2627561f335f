-- No other fitting runs of the same units are fewer.
use Rattle.std.proofs.Common.{◌≡◌, ◌≤◌, ◌<◌, ℕ, suc, ◌+◌, Bool, true, false, cond, nat_le, nat_lt, All, List, [], ◌∷◌, ◌++◌, length, flat_map, refl, ap, sym, subst, ◌∙◌, arith, append-nil}
use Rattle.std.specs.List.{AllByRecursion, onto_first}
use Rattle.std.proofs.lemmas.Bool.Decides.{nat_tests}
use Rattle.std.proofs.lemmas.List.Elements.{All-head, All-tail, All-from_recursion}
use Rattle.tabled_size_wrap.specs.Units.{LineUnit}
use Rattle.tabled_size_wrap.specs.FittingRuns.{FitsRun, AreFittingRuns, AreLongestRuns, AreRunsOf}
use Rattle.tabled_size_wrap.specs.Runs.{takes_unit, used_with_unit, runs_from, runs_of}
use Rattle.tabled_size_wrap.proofs.Runs.{some-runs}
use Rattle.tabled_size_wrap.proofs.Longest.{Fits, run-fits, fits-run, runs-are, runs-one}

length-onto : {X : Type 0} (x : X) (xs : List (List X)) → 0 < length xs → length (onto_first x xs) ≡ length xs
length-onto x [] some = absurd (omega (arith, some))
length-onto x (first ∷ others) some = refl

module _ (width : ℕ) where
  count : ℕ → List LineUnit → ℕ
  count used units = length (runs_from width used units)

  count-room : (used : ℕ) (u : LineUnit) (us : List LineUnit) → takes_unit width used u ≡ true → count used (u ∷ us) ≡ count (used_with_unit width used u) us
  unfolding count
  count-room used u us e =
      ap (λ t. length (cond t (onto_first u (runs_from width (used_with_unit width used u) us)) ([] ∷ onto_first u (runs_from width (used_with_unit width 0 u) us)))) e
      ∙ length-onto u (runs_from width (used_with_unit width used u) us) (some-runs width (used_with_unit width used u) us)

  count-full : (used : ℕ) (u : LineUnit) (us : List LineUnit) → takes_unit width used u ≡ false → count used (u ∷ us) ≡ suc (count (used_with_unit width 0 u) us)
  unfolding count
  count-full used u us e =
      ap (λ t. length (cond t (onto_first u (runs_from width (used_with_unit width used u) us)) ([] ∷ onto_first u (runs_from width (used_with_unit width 0 u) us)))) e
      ∙ ap suc (length-onto u (runs_from width (used_with_unit width 0 u) us) (some-runs width (used_with_unit width 0 u) us))

  -- where fewer columns are taken, at least as many are left, and no more are taken after the unit
  room-less : (less more : ℕ) (u : LineUnit) → less ≤ more → takes_unit width more u ≡ true → takes_unit width less u ≡ true
  room-less less more u order room = by (nat_le u.cost width) room
    where
      by : (narrow : Bool) → cond narrow (nat_le (more + u.cost) width) (nat_lt more width) ≡ true → cond narrow (nat_le (less + u.cost) width) (nat_lt less width) ≡ true
      by true room = grind (arith, nat_tests)
      by false room = grind (arith, nat_tests)

  used-less : (less more : ℕ) (u : LineUnit) → less ≤ more → used_with_unit width less u ≤ used_with_unit width more u
  used-less less more u order = by (nat_le u.cost width)
    where
      by : (narrow : Bool) → cond narrow (less + u.cost) width ≤ cond narrow (more + u.cost) width
      by true = omega arith
      by false = omega arith

  -- runs of which the first has taken more are no fewer, and at most one more
  between : (us : List LineUnit) (less more : ℕ) → less ≤ more → (count less us ≤ count more us) × (count more us ≤ suc (count less us))
  unfolding count
  between [] less more order = (omega arith, omega arith)
  between (u ∷ us) less more order = by (takes_unit width less u) (takes_unit width more u) refl refl (between us)
    where
      by : (a b : Bool) → takes_unit width less u ≡ a → takes_unit width more u ≡ b → ((l m : ℕ) → l ≤ m → (count l us ≤ count m us) × (count m us ≤ suc (count l us)))
          → (count less (u ∷ us) ≤ count more (u ∷ us)) × (count more (u ∷ us) ≤ suc (count less (u ∷ us)))
      by true true e f rest =
          let h = rest (used_with_unit width less u) (used_with_unit width more u) (used-less less more u order) in
          let x = count-room less u us e in
          let y = count-room more u us f in
          (omega (arith, h.0, x, y), omega (arith, h.1, x, y))
      by true false e f rest =
          let h = rest (used_with_unit width 0 u) (used_with_unit width less u) (used-less 0 less u (omega arith)) in
          let x = count-room less u us e in
          let y = count-full more u us f in
          (omega (arith, h.1, x, y), omega (arith, h.0, x, y))
      by false true e f rest = let wrong : false ≡ true = sym e ∙ room-less less more u order f in absurd (cc wrong)
      by false false e f rest =
          let x = count-full less u us e in
          let y = count-full more u us f in
          (omega (arith, x, y), omega (arith, x, y))

  -- after a run that fits there is at most one line more than from a new line on
  behind-run : (run left : List LineUnit) (used : ℕ) → Fits width used run → count used (run ++ left) ≤ suc (count 0 left)
  behind-run [] left used fits = (between left 0 used (omega arith)).1
  behind-run (u ∷ us) left used fits =
      let h = behind-run us left (used_with_unit width used u) fits.1 in
      omega (arith, h, count-room used u (us ++ left) fits.0)

  one-run : (run : List LineUnit) (used : ℕ) → Fits width used run → count used run ≡ 1
  unfolding count
  one-run [] used fits = refl
  one-run (u ∷ us) used fits = count-room used u us fits.0 ∙ one-run us (used_with_unit width used u) fits.1

  fewest-runs : (runs : List (List LineUnit)) → 0 < length runs → All (FitsRun width) runs → count 0 (flat_map (λ run. run) runs) ≤ length runs
  fewest-runs [] some all = absurd (omega (arith, some))
  fewest-runs (run ∷ []) some all =
      let fits = run-fits width run (All-head (FitsRun width) run [] all) in
      let one = ap (count 0) (append-nil run) ∙ one-run run 0 fits in
      omega (arith, one)
  fewest-runs (run ∷ next ∷ runs) some all =
      let fits = run-fits width run (All-head (FitsRun width) run (next ∷ runs) all) in
      let others = flat_map (λ r. r) (next ∷ runs) in
      let h = fewest-runs (next ∷ runs) (omega arith) (All-tail (FitsRun width) run (next ∷ runs) all) in
      omega (arith, behind-run run others 0 fits, h)

-- the chosen runs are no more than any fitting runs of which there is one
pub fewest : (width : ℕ) (units : List LineUnit) (runs others : List (List LineUnit)) → 0 < width → AreRunsOf width units runs → AreFittingRuns width units others → 0 < length others → length runs ≤ length others
unfolding count
fewest width units runs others some are fitting some-others =
    let same = ap length (runs-one width units runs (runs_of width units) are (runs-are width some units)) in
    let h = fewest-runs width others some-others fitting.fit in
    let all = ap (λ us. length (runs_from width 0 us)) fitting.joined in
    omega (arith, same, h, all)

-- the chosen runs are fitting runs
longest-fitting : (width : ℕ) (runs : List (List LineUnit)) (units : List LineUnit) → AreLongestRuns width units runs → (flat_map (λ run. run) runs ≡ units) × AllByRecursion (FitsRun width) runs
longest-fitting width [] units are = (sym are, tt)
longest-fitting width (run ∷ runs) units are =
    let rest = longest-fitting width runs are.0 are.3 in
    (ap (λ us. run ++ us) rest.0 ∙ sym are.2.parted, (are.2.fits, rest.1))

pub are-fitting_runs : (width : ℕ) (units : List LineUnit) (runs : List (List LineUnit)) → AreRunsOf width units runs → AreFittingRuns width units runs
are-fitting_runs width [] runs are =
    subst (AreFittingRuns width []) (sym are) (record { joined = refl; fit = All-from_recursion (FitsRun width) ([] ∷ []) (fits-run width [] tt, tt) })
are-fitting_runs width (u ∷ us) runs are =
    let found = longest-fitting width runs (u ∷ us) are in
    record { joined = found.0; fit = All-from_recursion (FitsRun width) runs found.1 }
