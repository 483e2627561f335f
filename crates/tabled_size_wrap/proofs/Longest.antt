-- The runs of the function are the longest that fit.
use Rattle.std.proofs.Common.{◌≡◌, ◌≤◌, ◌<◌, ℕ, zero, suc, ◌+◌, Bool, true, false, cond, nat_le, nat_lt, List, [], ◌∷◌, ◌++◌, length, filter, take, drop, refl, ap, sym, subst, ◌∙◌, arith, length-append}
use Rattle.std.specs.List.{onto_first}
use Rattle.std.proofs.Math.Seq.{take-append_seam, drop-append_seam}
use Rattle.std.proofs.lemmas.Bool.Decides.{nat_tests}
use Rattle.std.proofs.lemmas.List.Sums.{sum_by-cons, sum_by-append}
use Rattle.tabled_size_wrap.specs.Units.{LineUnit}
use Rattle.tabled_size_wrap.specs.FittingRuns.{run_cost, FitsRun, IsLongestRun, AreLongestRuns, AreRunsOf}
use Rattle.tabled_size_wrap.specs.Runs.{takes_unit, used_with_unit, runs_from, runs_of}

cost-cons : (u : LineUnit) (us : List LineUnit) → run_cost (u ∷ us) ≡ u.cost + run_cost us
cost-cons u us = sum_by-cons (λ (v : LineUnit). v.cost) u us

cost-append : (us vs : List LineUnit) → run_cost (us ++ vs) ≡ run_cost us + run_cost vs
cost-append us vs = sum_by-append (λ (v : LineUnit). v.cost) us vs

cost-part : (before behind : List LineUnit) (unit : LineUnit) (us : List LineUnit) → us ≡ before ++ unit ∷ behind → unit.cost ≤ run_cost us
cost-part before behind unit us same = omega (arith, ap run_cost same, cost-append before (unit ∷ behind), cost-cons unit behind)

-- ---- what two lists share that are the same

first_or : LineUnit → List LineUnit → LineUnit
first_or d [] = d
first_or d (u ∷ us) = u

others_of : List LineUnit → List LineUnit
others_of [] = []
others_of (u ∷ us) = us

same-first : (u v : LineUnit) (us vs : List LineUnit) → u ∷ us ≡ v ∷ vs → u ≡ v
unfolding first_or
same-first u v us vs e = ap (first_or u) e

same-others : (u v : LineUnit) (us vs : List LineUnit) → u ∷ us ≡ v ∷ vs → us ≡ vs
unfolding others_of
same-others u v us vs e = ap others_of e

module _ (width : ℕ) where
  abbrev narrow_of : List LineUnit → List LineUnit
  narrow_of us = filter (λ unit. nat_le unit.cost width) us

  narrow-le : (us : List LineUnit) → run_cost (narrow_of us) ≤ run_cost us
  narrow-le [] = omega arith
  narrow-le (u ∷ us) = by (nat_le u.cost width) (narrow-le us)
    where
      by : (narrow : Bool) → run_cost (narrow_of us) ≤ run_cost us → run_cost (cond narrow (u ∷ narrow_of us) (narrow_of us)) ≤ run_cost (u ∷ us)
      by true less = omega (arith, less, cost-cons u us, cost-cons u (narrow_of us))
      by false less = omega (arith, less, cost-cons u us)

  narrow-cons : (u : LineUnit) (us : List LineUnit) → nat_le u.cost width ≡ true → run_cost (narrow_of (u ∷ us)) ≡ u.cost + run_cost (narrow_of us)
  narrow-cons u us e = ap (λ t. run_cost (cond t (u ∷ narrow_of us) (narrow_of us))) e ∙ cost-cons u (narrow_of us)

  wide-cons : (u : LineUnit) (us : List LineUnit) → nat_le u.cost width ≡ false → run_cost (narrow_of (u ∷ us)) ≡ run_cost (narrow_of us)
  wide-cons u us e = ap (λ t. run_cost (cond t (u ∷ narrow_of us) (narrow_of us))) e

  room-narrow : (used : ℕ) (u : LineUnit) → nat_le u.cost width ≡ true → takes_unit width used u ≡ nat_le (used + u.cost) width
  room-narrow used u e = ap (λ t. cond t (nat_le (used + u.cost) width) (nat_lt used width)) e

  room-wide : (used : ℕ) (u : LineUnit) → nat_le u.cost width ≡ false → takes_unit width used u ≡ nat_lt used width
  room-wide used u e = ap (λ t. cond t (nat_le (used + u.cost) width) (nat_lt used width)) e

  used-narrow : (used : ℕ) (u : LineUnit) → nat_le u.cost width ≡ true → used_with_unit width used u ≡ used + u.cost
  used-narrow used u e = ap (λ t. cond t (used + u.cost) width) e

  used-wide : (used : ℕ) (u : LineUnit) → nat_le u.cost width ≡ false → used_with_unit width used u ≡ width
  used-wide used u e = ap (λ t. cond t (used + u.cost) width) e

  pub room-first : (u : LineUnit) → 0 < width → takes_unit width 0 u ≡ true
  room-first u some = by (nat_le u.cost width) refl
    where
      by : (narrow : Bool) → nat_le u.cost width ≡ narrow → takes_unit width 0 u ≡ true
      by true e = room-narrow 0 u e ∙ grind (arith, nat_tests)
      by false e = room-wide 0 u e ∙ grind (arith, nat_tests)

  -- ---- a run that fits, unit by unit

  abbrev pub Fits : ℕ → List LineUnit → Type 0
  Fits used [] = Unit {0}
  Fits used (u ∷ us) = (takes_unit width used u ≡ true) × Fits (used_with_unit width used u) us

  -- after so many columns
  record FitsBehind (used : ℕ) (run : List LineUnit) : Type 0 where
    pub narrow : used + run_cost (narrow_of run) ≤ width
    pub wide : (before behind : List LineUnit) (unit : LineUnit) → run ≡ before ++ unit ∷ behind → width < unit.cost → (used + run_cost before < width) × (run_cost behind ≡ 0)

  from-behind : (run : List LineUnit) (used : ℕ) → FitsBehind used run → Fits used run
  from-behind [] used is = tt
  from-behind (u ∷ us) used is = by (nat_le u.cost width) refl (from-behind us)
    where
      by : (narrow : Bool) → nat_le u.cost width ≡ narrow → ((n : ℕ) → FitsBehind n us → Fits n us) → Fits used (u ∷ us)
      by true e rest =
          let sum = narrow-cons u us e in
          let fits : used + u.cost ≤ width = omega (arith, is.narrow, sum) in
          let behind : FitsBehind (used + u.cost) us = record {
            narrow = omega (arith, is.narrow, sum);
            wide = λ before behind unit same more.
                let found = is.wide (u ∷ before) behind unit (ap (λ (vs : List LineUnit). u ∷ vs) same) more in
                (omega (arith, found.0, cost-cons u before), found.1);
          } in
          (room-narrow used u e ∙ grind (arith, nat_tests), subst (λ n. Fits n us) (sym (used-narrow used u e)) (rest (used + u.cost) behind))
      by false e rest =
          let more : width < u.cost = grind (arith, nat_tests) in
          let found = is.wide [] us u refl more in
          let less : used < width = omega (arith, found.0) in
          let behind : FitsBehind width us = record {
            narrow = omega (arith, found.1, narrow-le us);
            wide = λ before behind unit same cost. absurd (omega (arith, cost-part before behind unit us same, found.1, cost));
          } in
          (room-wide used u e ∙ grind (arith, nat_tests), subst (λ n. Fits n us) (sym (used-wide used u e)) (rest width behind))

  -- a full line takes what costs nothing alone
  full-none : (us : List LineUnit) → Fits width us → run_cost us ≡ 0
  full-none [] fits = refl
  full-none (u ∷ us) fits = by (nat_le u.cost width) refl (full-none us)
    where
      by : (narrow : Bool) → nat_le u.cost width ≡ narrow → (Fits width us → run_cost us ≡ 0) → run_cost (u ∷ us) ≡ 0
      by true e rest =
          let room : nat_le (width + u.cost) width ≡ true = sym (room-narrow width u e) ∙ fits.0 in
          let none : u.cost ≡ 0 = grind (arith, nat_tests) in
          let same : used_with_unit width width u ≡ width = used-narrow width u e ∙ omega (arith, none) in
          let others = rest (subst (λ n. Fits n us) same fits.1) in
          cost-cons u us ∙ omega (arith, none, others)
      by false e rest =
          let room : nat_lt width width ≡ true = sym (room-wide width u e) ∙ fits.0 in
          let wrong : width < width = grind (arith, nat_tests) in
          absurd (omega (arith, wrong))

  to-behind : (run : List LineUnit) (used : ℕ) → used ≤ width → Fits used run → FitsBehind used run
  to-behind [] used low fits = record {
    narrow = omega arith;
    wide = λ before behind unit same more. let long = ap length same ∙ length-append before (unit ∷ behind) in absurd (omega (arith, long));
  }
  to-behind (u ∷ us) used low fits = by (nat_le u.cost width) refl (to-behind us)
    where
      by : (narrow : Bool) → nat_le u.cost width ≡ narrow → ((n : ℕ) → n ≤ width → Fits n us → FitsBehind n us) → FitsBehind used (u ∷ us)
      by true e rest =
          let sum = narrow-cons u us e in
          let room : nat_le (used + u.cost) width ≡ true = sym (room-narrow used u e) ∙ fits.0 in
          let less : used + u.cost ≤ width = grind (arith, nat_tests) in
          let narrow : u.cost ≤ width = omega (arith, less) in
          let is = rest (used + u.cost) less (subst (λ n. Fits n us) (used-narrow used u e) fits.1) in
          record {
            narrow = omega (arith, is.narrow, sum);
            wide = λ before behind unit same more. wide-there before behind unit is narrow same more;
          }
        where
          wide-there : (before behind : List LineUnit) (unit : LineUnit) → FitsBehind (used + u.cost) us → u.cost ≤ width → u ∷ us ≡ before ++ unit ∷ behind → width < unit.cost → (used + run_cost before < width) × (run_cost behind ≡ 0)
          wide-there [] behind unit is narrow same more = let cost = ap (λ (v : LineUnit). v.cost) (same-first u unit us behind same) in absurd (omega (arith, cost, narrow, more))
          wide-there (b ∷ before) behind unit is narrow same more =
              let cost = ap (λ (v : LineUnit). v.cost) (same-first u b us (before ++ unit ∷ behind) same) in
              let found = is.wide before behind unit (same-others u b us (before ++ unit ∷ behind) same) more in
              (omega (arith, found.0, cost, cost-cons b before), found.1)
      by false e rest =
          let room : nat_lt used width ≡ true = sym (room-wide used u e) ∙ fits.0 in
          let less : used < width = grind (arith, nat_tests) in
          let none = full-none us (subst (λ n. Fits n us) (used-wide used u e) fits.1) in
          record {
            narrow = omega (arith, wide-cons u us e, narrow-le us, none, less);
            wide = λ before behind unit same more. wide-here before behind unit none less same more;
          }
        where
          wide-here : (before behind : List LineUnit) (unit : LineUnit) → run_cost us ≡ 0 → used < width → u ∷ us ≡ before ++ unit ∷ behind → width < unit.cost → (used + run_cost before < width) × (run_cost behind ≡ 0)
          wide-here [] behind unit none less same more = (omega (arith, less), sym (ap run_cost (same-others u unit us behind same)) ∙ none)
          wide-here (b ∷ before) behind unit none less same more =
              absurd (omega (arith, cost-part before behind unit us (same-others u b us (before ++ unit ∷ behind) same), none, more))

  pub run-fits : (run : List LineUnit) → FitsRun width run → Fits 0 run
  run-fits run is = from-behind run 0 (record { narrow = omega (arith, is.narrow); wide = λ before behind unit same more. let found = is.wide before behind unit same more in (omega (arith, found.0), found.1) })

  pub fits-run : (run : List LineUnit) → Fits 0 run → FitsRun width run
  fits-run run fits =
      let is = to-behind run 0 (omega arith) fits in
      record { narrow = omega (arith, is.narrow); wide = λ before behind unit same more. let found = is.wide before behind unit same more in (omega (arith, found.0), found.1) }

  -- ---- the first run

  abbrev runs_behind : List LineUnit → List (List LineUnit)
  runs_behind [] = []
  runs_behind (u ∷ us) = runs_from width 0 (u ∷ us)

  record FirstRun (used : ℕ) (units : List LineUnit) : Type 0 where
    pub first : List LineUnit
    pub left : List LineUnit
    pub parted : units ≡ first ++ left
    pub fits : Fits used first
    pub longest : (other more : List LineUnit) → units ≡ other ++ more → Fits used other → length other ≤ length first
    pub runs_are : runs_from width used units ≡ first ∷ runs_behind left

  first-run : 0 < width → (units : List LineUnit) (used : ℕ) → FirstRun used units
  first-run some [] used = record {
    first = [];
    left = [];
    parted = refl;
    fits = tt;
    longest = λ other more same _. let long = ap length same ∙ length-append other more in omega (arith, long);
    runs_are = refl;
  }
  first-run some (u ∷ us) used = by (takes_unit width used u) refl (first-run some us (used_with_unit width used u))
    where
      by : (room : Bool) → takes_unit width used u ≡ room → FirstRun (used_with_unit width used u) us → FirstRun used (u ∷ us)
      by true e is = record {
        first = u ∷ is.first;
        left = is.left;
        parted = ap (λ (vs : List LineUnit). u ∷ vs) is.parted;
        fits = (e, is.fits);
        longest = longest-there;
        runs_are =
            ap (λ t. cond t (onto_first u (runs_from width (used_with_unit width used u) us)) ([] ∷ onto_first u (runs_from width (used_with_unit width 0 u) us))) e
            ∙ ap (onto_first u) is.runs_are;
      }
        where
          longest-there : (other more : List LineUnit) → u ∷ us ≡ other ++ more → Fits used other → length other ≤ length (u ∷ is.first)
          longest-there [] more same fits = omega arith
          longest-there (o ∷ other) more same fits =
              let first : o ≡ u = sym (same-first u o us (other ++ more) same) in
              let long = is.longest other more (same-others u o us (other ++ more) same) (subst (λ v. Fits (used_with_unit width used v) other) first fits.1) in
              omega (arith, long)
      by false e is = record {
        first = [];
        left = u ∷ us;
        parted = refl;
        fits = tt;
        longest = longest-here;
        runs_are =
            ap (λ t. cond t (onto_first u (runs_from width (used_with_unit width used u) us)) ([] ∷ onto_first u (runs_from width (used_with_unit width 0 u) us))) e
            ∙ sym (ap (λ t. [] ∷ cond t (onto_first u (runs_from width (used_with_unit width 0 u) us)) ([] ∷ onto_first u (runs_from width (used_with_unit width 0 u) us))) (room-first u some));
      }
        where
          longest-here : (other more : List LineUnit) → u ∷ us ≡ other ++ more → Fits used other → length other ≤ 0
          longest-here [] more same fits = omega arith
          longest-here (o ∷ other) more same fits =
              let first : o ≡ u = sym (same-first u o us (other ++ more) same) in
              let wrong : false ≡ true = sym e ∙ ap (takes_unit width used) (sym first) ∙ fits.0 in
              cc wrong

  by-first : 0 < width → (u : LineUnit) (us : List LineUnit) → ((v : LineUnit) (vs : List LineUnit) → length vs < length us → AreLongestRuns width (v ∷ vs) (runs_from width 0 (v ∷ vs)))
      → AreLongestRuns width (u ∷ us) (runs_from width 0 (u ∷ us))
  by-first some u us rest =
      let is = first-run some (u ∷ us) 0 in
      let nonempty = is.longest (u ∷ []) us refl (room-first u some, tt) in
      let longest : IsLongestRun width (u ∷ us) is.first is.left = record {
        parted = is.parted;
        fits = fits-run is.first is.fits;
        longest = λ other more same fits. is.longest other more same (run-fits other fits);
      } in
      let long = ap length is.parted ∙ length-append is.first is.left in
      subst (AreLongestRuns width (u ∷ us)) (sym is.runs_are) (is.left, omega (arith, nonempty), longest, behind is.left (omega (arith, long, nonempty)))
    where
      behind : (left : List LineUnit) → length left ≤ length us → AreLongestRuns width left (runs_behind left)
      behind [] less = refl
      behind (v ∷ vs) less = rest v vs (omega (arith, less))

  longest-runs : 0 < width → (n : ℕ) (u : LineUnit) (us : List LineUnit) → length us ≤ n → AreLongestRuns width (u ∷ us) (runs_from width 0 (u ∷ us))
  longest-runs some zero u us fuel = by-first some u us (λ v vs less. absurd (omega (arith, less, fuel)))
  longest-runs some (suc n) u us fuel = by-first some u us (λ v vs less. longest-runs some n v vs (omega (arith, less, fuel)))

  pub runs-are : 0 < width → (units : List LineUnit) → AreRunsOf width units (runs_of width units)
  runs-are some [] = refl
  runs-are some (u ∷ us) = longest-runs some (length us) u us (omega arith)

  -- ---- there is one list of runs

  one-run : (units run left other more : List LineUnit) → IsLongestRun width units run left → IsLongestRun width units other more → (run ≡ other) × (left ≡ more)
  one-run units run left other more a b =
      let up = b.longest run left a.parted a.fits in
      let down = a.longest other more b.parted b.fits in
      let same : length run ≡ length other = omega (arith, up, down) in (
        sym (take-append_seam run left) ∙ ap (take (length run)) (sym a.parted ∙ b.parted) ∙ ap (λ n. take n (other ++ more)) same ∙ take-append_seam other more,
        sym (drop-append_seam run left) ∙ ap (drop (length run)) (sym a.parted ∙ b.parted) ∙ ap (λ n. drop n (other ++ more)) same ∙ drop-append_seam other more,
      )

  longest-one : (runs others : List (List LineUnit)) (units : List LineUnit) → AreLongestRuns width units runs → AreLongestRuns width units others → runs ≡ others
  longest-one [] [] units a b = refl
  longest-one [] (other ∷ others) units a b =
      let long = ap length (sym b.2.parted ∙ a) ∙ refl in
      absurd (omega (arith, long, length-append other b.0, b.1))
  longest-one (run ∷ runs) [] units a b =
      let long = ap length (sym a.2.parted ∙ b) ∙ refl in
      absurd (omega (arith, long, length-append run a.0, a.1))
  longest-one (run ∷ runs) (other ∷ others) units a b =
      let same = one-run units run a.0 other b.0 a.2 b.2 in
      ap (λ (first : List LineUnit). first ∷ runs) same.0
      ∙ ap (λ (behind : List (List LineUnit)). other ∷ behind) (longest-one runs others b.0 (subst (λ left. AreLongestRuns width left runs) same.1 a.3) b.3)

  pub runs-one : (units : List LineUnit) (runs others : List (List LineUnit)) → AreRunsOf width units runs → AreRunsOf width units others → runs ≡ others
  runs-one [] runs others a b = a ∙ sym b
  runs-one (u ∷ us) runs others a b = longest-one runs others (u ∷ us) a b
