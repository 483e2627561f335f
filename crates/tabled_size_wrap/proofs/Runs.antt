-- Runs, unit by unit.
use Rattle.std.proofs.Common.{◌≡◌, ◌<◌, ℕ, suc, ◌+◌, ◌-◌, Bool, true, false, cond, nat_le, nat_lt, List, [], ◌∷◌, ◌++◌, length, take, drop, refl, ap, sym, subst, ◌∙◌, arith, append_assoc, if◌then◌else◌}
use Rattle.std.specs.List.{join_with_byte, onto_first, prefix_len, repeat}
use Rattle.std.proofs.lemmas.Bool.Decides.{nat_tests}
use Rattle.std.proofs.lemmas.List.Sums.{sum_by-cons}
use Rattle.grid_records_measure.specs.TextLines.{line_feed}
use Rattle.tabled_size_wrap.specs.Units.{LineUnit, unit_len}
use Rattle.tabled_size_wrap.specs.FittingRuns.{run_cost}
use Rattle.tabled_size_wrap.specs.Wrapping.{run_len, unit_fits, before_wide, from_wide, shown_run, lines_of_runs}
use Rattle.tabled_size_wrap.specs.Runs.{takes_unit, used_with_unit, runs_from}

-- ---- there is a first run

pub some-onto : {X : Type 0} (x : X) (xs : List (List X)) → 0 < length (onto_first x xs)
some-onto x [] = omega arith
some-onto x (first ∷ others) = omega arith

pub some-runs : (width used : ℕ) (units : List LineUnit) → 0 < length (runs_from width used units)
some-runs width used [] = omega arith
some-runs width used (u ∷ us) = by (takes_unit width used u)
  where
    by : (room : Bool) → 0 < length (cond room (onto_first u (runs_from width (used_with_unit width used u) us)) ([] ∷ onto_first u (runs_from width (used_with_unit width 0 u) us)))
    by true = some-onto u (runs_from width (used_with_unit width used u) us)
    by false = omega arith

-- ---- the narrow units that come first

-- the first of units none of which is narrow is too wide
pub first-wide : (width : ℕ) (wide : LineUnit) (behind : List LineUnit) → prefix_len (unit_fits width) (wide ∷ behind) ≡ 0 → width < wide.cost
first-wide width wide behind none = by (unit_fits width wide) refl
  where
    by : (b : Bool) → unit_fits width wide ≡ b → width < wide.cost
    by true e = let more : prefix_len (unit_fits width) (wide ∷ behind) ≡ suc (prefix_len (unit_fits width) behind) = ap (λ b. cond b (1 + prefix_len (unit_fits width) behind) 0) e ∙ omega arith in absurd (omega (arith, none, more))
    by false e = grind (arith, nat_tests, e)

pub front-cons : (width : ℕ) (u : LineUnit) (run : List LineUnit) → unit_fits width u ≡ true
    → (before_wide width (u ∷ run) ≡ u ∷ before_wide width run) × (from_wide width (u ∷ run) ≡ from_wide width run)
front-cons width u run narrow =
    let n = prefix_len (unit_fits width) run in
    let more : prefix_len (unit_fits width) (u ∷ run) ≡ suc n = ap (λ b. cond b (1 + n) 0) narrow ∙ omega arith in
    (ap (λ k. take k (u ∷ run)) more, ap (λ k. drop k (u ∷ run)) more)

pub front-wide : (width : ℕ) (u : LineUnit) (run : List LineUnit) → unit_fits width u ≡ false
    → (before_wide width (u ∷ run) ≡ []) × (from_wide width (u ∷ run) ≡ u ∷ run)
front-wide width u run wide =
    let n = prefix_len (unit_fits width) run in
    let none : prefix_len (unit_fits width) (u ∷ run) ≡ 0 = ap (λ b. cond b (1 + n) 0) wide in
    (ap (λ k. take k (u ∷ run)) none, ap (λ k. drop k (u ∷ run)) none)

-- ---- joined lines

pub join-front : (c : ℕ) (x y : List ℕ) (lines : List (List ℕ)) → join_with_byte c ((x ++ y) ∷ lines) ≡ x ++ join_with_byte c (y ∷ lines)
join-front c x y [] = refl
join-front c x y (z ∷ lines) = append_assoc x y (c ∷ join_with_byte c (z ∷ lines))

pub join-cons : (c : ℕ) (x : List ℕ) (lines : List (List ℕ)) → 0 < length lines → join_with_byte c (x ∷ lines) ≡ x ++ c ∷ join_with_byte c lines
join-cons c x [] some = absurd (omega (arith, some))
join-cons c x (y ∷ lines) some = refl

-- ---- the lines of runs, of which the first goes on

module _ (part : ℕ → ℕ → List ℕ) (mark : List ℕ) (width : ℕ) where
  -- a run that has come from one place to another, and has taken so many columns
  abbrev shown_behind : ℕ → ℕ → ℕ → List LineUnit → List LineUnit → List ℕ
  shown_behind a b used front [] = part a (b + run_len front)
  shown_behind a b used front (wide ∷ behind) =
      part a (b + run_len front) ++ (repeat (width - (used + run_cost front)) mark ++ part (b + run_len front + unit_len wide) (b + run_len front + unit_len wide + run_len behind))

  abbrev lines_behind : ℕ → ℕ → ℕ → List (List LineUnit) → List (List ℕ)
  lines_behind a b used [] = []
  lines_behind a b used (run ∷ runs) =
      shown_behind a b used (before_wide width run) (from_wide width run) ∷ lines_of_runs unit_len part mark width (b + run_len run) runs

  -- a unit that fits: it is kept, or else marked
  abbrev pub put : (ℕ → ℕ → ℕ → List ℕ) → ℕ → ℕ → ℕ → LineUnit → List ℕ
  put others a b used u =
      if nat_le u.cost width then others a (b + unit_len u) (used + u.cost)
      else part a b ++ (repeat (width - used) mark ++ others (b + unit_len u) (b + unit_len u) width)

  -- what is still to be written
  abbrev pub left_bytes : ℕ → ℕ → ℕ → List LineUnit → List ℕ
  left_bytes a b used [] = part a b
  left_bytes a b used (u ∷ us) =
      if takes_unit width used u then put (λ c d n. left_bytes c d n us) a b used u
      else part a b ++ line_feed ∷ put (λ c d n. left_bytes c d n us) b b 0 u

  -- ---- at its begin

  shown-start : (a : ℕ) (front behind : List LineUnit) → shown_run unit_len part mark width a front behind ≡ shown_behind a a 0 front behind
  shown-start a front [] = refl
  shown-start a front (w ∷ behind) =
      let from = a + run_len front in
      let same : run_cost front ≡ 0 + run_cost front = omega arith in
      ap (λ n. part a from ++ (repeat (width - n) mark ++ part (from + unit_len w) (from + unit_len w + run_len behind))) same

  pub lines-start : (a : ℕ) (runs : List (List LineUnit)) → lines_of_runs unit_len part mark width a runs ≡ lines_behind a a 0 runs
  lines-start a [] = refl
  lines-start a (run ∷ runs) =
      ap (λ (line : List ℕ). line ∷ lines_of_runs unit_len part mark width (a + run_len run) runs) (shown-start a (before_wide width run) (from_wide width run))

  -- ---- a narrow unit more

  shown-narrow : (a b used : ℕ) (u : LineUnit) (front behind : List LineUnit) → shown_behind a b used (u ∷ front) behind ≡ shown_behind a (b + unit_len u) (used + u.cost) front behind
  shown-narrow a b used u front [] =
      let place : b + run_len (u ∷ front) ≡ b + unit_len u + run_len front = omega (arith, sum_by-cons unit_len u front) in
      ap (part a) place
  shown-narrow a b used u front (w ∷ behind) =
      let place : b + run_len (u ∷ front) ≡ b + unit_len u + run_len front = omega (arith, sum_by-cons unit_len u front) in
      let taken : used + run_cost (u ∷ front) ≡ used + u.cost + run_cost front = omega (arith, sum_by-cons (λ (v : LineUnit). v.cost) u front) in
      ap (λ n. part a n ++ (repeat (width - (used + run_cost (u ∷ front))) mark ++ part (n + unit_len w) (n + unit_len w + run_len behind))) place
      ∙ ap (λ n. part a (b + unit_len u + run_len front) ++ (repeat (width - n) mark ++ part (b + unit_len u + run_len front + unit_len w) (b + unit_len u + run_len front + unit_len w + run_len behind))) taken

  lines-narrow : (a b used : ℕ) (u : LineUnit) (runs : List (List LineUnit)) → 0 < length runs → unit_fits width u ≡ true → lines_behind a b used (onto_first u runs) ≡ lines_behind a (b + unit_len u) (used + u.cost) runs
  lines-narrow a b used u [] some narrow = absurd (omega (arith, some))
  lines-narrow a b used u (run ∷ runs) some narrow =
      let fronts = front-cons width u run narrow in
      let place : b + run_len (u ∷ run) ≡ b + unit_len u + run_len run = omega (arith, sum_by-cons unit_len u run) in
      ap (λ (front : List LineUnit). shown_behind a b used front (from_wide width (u ∷ run)) ∷ lines_of_runs unit_len part mark width (b + run_len (u ∷ run)) runs) fronts.0
      ∙ ap (λ (behind : List LineUnit). shown_behind a b used (u ∷ before_wide width run) behind ∷ lines_of_runs unit_len part mark width (b + run_len (u ∷ run)) runs) fronts.1
      ∙ ap (λ (line : List ℕ). line ∷ lines_of_runs unit_len part mark width (b + run_len (u ∷ run)) runs) (shown-narrow a b used u (before_wide width run) (from_wide width run))
      ∙ ap (λ n. shown_behind a (b + unit_len u) (used + u.cost) (before_wide width run) (from_wide width run) ∷ lines_of_runs unit_len part mark width n runs) place

  -- ---- after a wide unit all units of the run are narrow

  abbrev AllNarrow : List (List LineUnit) → Type 0
  AllNarrow [] = Unit {0}
  AllNarrow (run ∷ runs) = (before_wide width run ≡ run) × (from_wide width run ≡ [])

  narrow-onto : (u : LineUnit) (runs : List (List LineUnit)) → 0 < length runs → unit_fits width u ≡ true → AllNarrow runs → AllNarrow (onto_first u runs)
  narrow-onto u [] some narrow all = absurd (omega (arith, some))
  narrow-onto u (run ∷ runs) some narrow all =
      let fronts = front-cons width u run narrow in
      (fronts.0 ∙ ap (λ (us : List LineUnit). u ∷ us) all.0, fronts.1 ∙ all.1)

  pub full-narrow : (us : List LineUnit) → AllNarrow (runs_from width width us)
  full-narrow [] = (refl, refl)
  full-narrow (u ∷ us) = by (full-narrow us) (unit_fits width u) refl (takes_unit width width u) refl
    where
      by : AllNarrow (runs_from width width us) → (narrow : Bool) → unit_fits width u ≡ narrow → (room : Bool) → takes_unit width width u ≡ room
          → AllNarrow (cond room (onto_first u (runs_from width (used_with_unit width width u) us)) ([] ∷ onto_first u (runs_from width (used_with_unit width 0 u) us)))
      by all true e true f =
          let fits : nat_le (width + u.cost) width ≡ true = ap (λ b. cond b (nat_le (width + u.cost) width) (nat_lt width width)) (sym e) ∙ f in
          let none : u.cost ≡ 0 = grind (arith, nat_tests) in
          let same : used_with_unit width width u ≡ width = ap (λ b. cond b (width + u.cost) width) e ∙ omega (arith, none) in
          narrow-onto u (runs_from width (used_with_unit width width u) us) (some-runs width (used_with_unit width width u) us) e
          (subst (λ n. AllNarrow (runs_from width n us)) (sym same) all)
      by all false e true f =
          let fits : nat_lt width width ≡ true = ap (λ b. cond b (nat_le (width + u.cost) width) (nat_lt width width)) (sym e) ∙ f in
          let wrong : width < width = grind (arith, nat_tests) in
          absurd (omega (arith, wrong))
      by all true e false f = (refl, refl)
      by all false e false f = (refl, refl)

  lines-full : (a : ℕ) (runs : List (List LineUnit)) → AllNarrow runs → (b : ℕ) (used : ℕ) (u : LineUnit) → 0 < length runs → unit_fits width u ≡ false
      → join_with_byte line_feed (lines_behind a b used (onto_first u runs)) ≡ part a b ++ (repeat (width - used) mark ++ join_with_byte line_feed (lines_behind (b + unit_len u) (b + unit_len u) width runs))
  lines-full a [] all b used u some wide = absurd (omega (arith, some))
  lines-full a (run ∷ runs) all b used u some wide =
      let fronts = front-wide width u run wide in
      let next = b + unit_len u in
      let no_len : b + run_len [] ≡ b = omega arith in
      let no_cost : used + run_cost [] ≡ used = omega arith in
      let place : b + run_len (u ∷ run) ≡ next + run_len run = omega (arith, sum_by-cons unit_len u run) in
      let others = lines_of_runs unit_len part mark width (next + run_len run) runs in
      let line = part next (next + run_len run) in
      ap (λ (front : List LineUnit). join_with_byte line_feed (shown_behind a b used front (from_wide width (u ∷ run)) ∷ lines_of_runs unit_len part mark width (b + run_len (u ∷ run)) runs)) fronts.0
      ∙ ap (λ (behind : List LineUnit). join_with_byte line_feed (shown_behind a b used [] behind ∷ lines_of_runs unit_len part mark width (b + run_len (u ∷ run)) runs)) fronts.1
      ∙ ap (λ n. join_with_byte line_feed (shown_behind a b used [] (u ∷ run) ∷ lines_of_runs unit_len part mark width n runs)) place
      ∙ ap (λ n. join_with_byte line_feed ((part a n ++ (repeat (width - (used + run_cost [])) mark ++ part (n + unit_len u) (n + unit_len u + run_len run))) ∷ others)) no_len
      ∙ ap (λ n. join_with_byte line_feed ((part a b ++ (repeat (width - n) mark ++ line)) ∷ others)) no_cost
      ∙ join-front line_feed (part a b) (repeat (width - used) mark ++ line) others
      ∙ ap (λ bytes. part a b ++ bytes) (join-front line_feed (repeat (width - used) mark) line others)
      ∙ ap (λ (behind : List LineUnit). part a b ++ (repeat (width - used) mark ++ join_with_byte line_feed (shown_behind next next width run behind ∷ others))) (sym all.1)
      ∙ ap (λ (front : List LineUnit). part a b ++ (repeat (width - used) mark ++ join_with_byte line_feed (shown_behind next next width front (from_wide width run) ∷ others))) (sym all.0)

  -- ---- all lines

  abbrev Same : List LineUnit → Type 0
  Same us = (a b used : ℕ) → join_with_byte line_feed (lines_behind a b used (runs_from width used us)) ≡ left_bytes a b used us

  put-lines : (a b used : ℕ) (u : LineUnit) (us : List LineUnit) → Same us
      → join_with_byte line_feed (lines_behind a b used (onto_first u (runs_from width (used_with_unit width used u) us))) ≡ put (λ c d n. left_bytes c d n us) a b used u
  put-lines a b used u us same = by (unit_fits width u) refl
    where
      by : (narrow : Bool) → unit_fits width u ≡ narrow
          → join_with_byte line_feed (lines_behind a b used (onto_first u (runs_from width (used_with_unit width used u) us))) ≡ put (λ c d n. left_bytes c d n us) a b used u
      by true e =
          ap (λ n. join_with_byte line_feed (lines_behind a b used (onto_first u (runs_from width n us)))) (ap (λ t. cond t (used + u.cost) width) e)
          ∙ ap (join_with_byte line_feed) (lines-narrow a b used u (runs_from width (used + u.cost) us) (some-runs width (used + u.cost) us) e)
          ∙ same a (b + unit_len u) (used + u.cost)
          ∙ sym (ap (λ t. cond t (left_bytes a (b + unit_len u) (used + u.cost) us) (part a b ++ (repeat (width - used) mark ++ left_bytes (b + unit_len u) (b + unit_len u) width us))) e)
      by false e =
          ap (λ n. join_with_byte line_feed (lines_behind a b used (onto_first u (runs_from width n us)))) (ap (λ t. cond t (used + u.cost) width) e)
          ∙ lines-full a (runs_from width width us) (full-narrow us) b used u (some-runs width width us) e
          ∙ ap (λ bytes. part a b ++ (repeat (width - used) mark ++ bytes)) (same (b + unit_len u) (b + unit_len u) width)
          ∙ sym (ap (λ t. cond t (left_bytes a (b + unit_len u) (used + u.cost) us) (part a b ++ (repeat (width - used) mark ++ left_bytes (b + unit_len u) (b + unit_len u) width us))) e)

  some-lines : (a b used : ℕ) (runs : List (List LineUnit)) → 0 < length runs → 0 < length (lines_behind a b used runs)
  some-lines a b used [] some = absurd (omega (arith, some))
  some-lines a b used (run ∷ runs) some = omega arith

  pub lines-left : (us : List LineUnit) → Same us
  lines-left [] a b used = let no_len : b + run_len [] ≡ b = omega arith in ap (part a) no_len
  lines-left (u ∷ us) a b used = by (takes_unit width used u) (lines-left us)
    where
      by : (room : Bool) → Same us
          → join_with_byte line_feed (lines_behind a b used (cond room (onto_first u (runs_from width (used_with_unit width used u) us)) ([] ∷ onto_first u (runs_from width (used_with_unit width 0 u) us))))
          ≡ cond room (put (λ c d n. left_bytes c d n us) a b used u) (part a b ++ line_feed ∷ put (λ c d n. left_bytes c d n us) b b 0 u)
      by true same = put-lines a b used u us same
      by false same =
          let runs = onto_first u (runs_from width (used_with_unit width 0 u) us) in
          let no_len : b + run_len [] ≡ b = omega arith in
          ap (λ n. join_with_byte line_feed (part a n ∷ lines_of_runs unit_len part mark width n runs)) no_len
          ∙ ap (λ (lines : List (List ℕ)). join_with_byte line_feed (part a b ∷ lines)) (lines-start b runs)
          ∙ join-cons line_feed (part a b) (lines_behind b b 0 runs) (some-lines b b 0 runs (some-onto u (runs_from width (used_with_unit width 0 u) us)))
          ∙ ap (λ bytes. part a b ++ line_feed ∷ bytes) (put-lines b b 0 u us same)

  pub lines-all : (us : List LineUnit) → join_with_byte line_feed (lines_of_runs unit_len part mark width 0 (runs_from width 0 us)) ≡ left_bytes 0 0 0 us
  lines-all us = ap (join_with_byte line_feed) (lines-start 0 (runs_from width 0 us)) ∙ lines-left us 0 0 0

pub some-shown : (part : ℕ → ℕ → List ℕ) (mark : List ℕ) (width place : ℕ) (runs : List (List LineUnit)) → 0 < length runs → 0 < length (lines_of_runs unit_len part mark width place runs)
some-shown part mark width place [] some = absurd (omega (arith, some))
some-shown part mark width place (run ∷ runs) some = omega arith
