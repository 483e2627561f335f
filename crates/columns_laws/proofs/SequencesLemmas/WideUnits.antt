-- Nothing comes in a line after a unit that costs more than the width.
use Rattle.std.proofs.Common.{◌≡◌, ◌<◌, ◌≤◌, nat_le, ℕ, Bool, true, false, cond, List, [], ◌∷◌, ◌++◌, map, flat_map, refl, ap, sym, subst, ◌∙◌, arith, append-nil}
use Rattle.std.specs.List.{AllByRecursion, join_by, prefix_len, slice_split}
use Rattle.std.proofs.lemmas.Bool.Decides.{nat_tests}
use Rattle.std.proofs.lemmas.List.{take-append-drop}
use Rattle.std.proofs.lemmas.List.Elements.{recursion_from_All}
use Rattle.std.proofs.lemmas.List.Sums.{sum_by-cons}
use Rattle.ansi_scan.proofs.Runs.{prefix_len-drop_run, prefix_len-pass}
use Rattle.grid_records_measure.specs.Measures.{measure}
use Rattle.tabled_size_wrap.specs.FittingRuns.{FitsRun, run_cost}
use Rattle.tabled_size_wrap.specs.Runs.{runs_of}
use Rattle.tabled_size_wrap.specs.Units.{LineUnit, character_unit, is_space, line_units, space_unit, word_units}
use Rattle.tabled_size_wrap.specs.Wrapping.{from_wide, unit_fits, before_wide}
use Rattle.tabled_size_wrap.proofs.Fewest.{are-fitting_runs}
use Rattle.tabled_size_wrap.proofs.Longest.{runs-are}

module _ (width : ℕ) where
  -- a unit after one that costs more than the width costs something
  abbrev Chained : List LineUnit → Type 0
  Chained [] = Unit {0}
  Chained (u ∷ []) = Unit {0}
  Chained (u ∷ v ∷ us) = (width < u.cost → 0 < v.cost) × Chained (v ∷ us)

  abbrev FirstCosts : List LineUnit → Type 0
  FirstCosts [] = Unit {0}
  FirstCosts (u ∷ us) = 0 < u.cost

  chain-one : (u : LineUnit) (us : List LineUnit) → (width < u.cost → FirstCosts us) → Chained us → Chained (u ∷ us)
  chain-one u [] costs chained = tt
  chain-one u (v ∷ us) costs chained = (costs, chained)

  characters-chain : (cs : List ℕ) (rest : List LineUnit) → FirstCosts rest → Chained rest → Chained (map character_unit cs ++ rest) × FirstCosts (map character_unit cs ++ rest)
  characters-chain [] rest costs chained = (chained, costs)
  characters-chain (c ∷ cs) rest costs chained =
      let others = characters-chain cs rest costs chained in
      (chain-one (character_unit c) (map character_unit cs ++ rest) (λ wide. others.1) others.0, omega arith)

  word-chain : (word : List ℕ) (rest : List LineUnit) → FirstCosts rest → Chained rest → Chained (word_units width word ++ rest)
  word-chain [] rest costs chained = chained
  word-chain (c ∷ cs) rest costs chained = by (nat_le (measure (c ∷ cs)) width) refl
    where
      by : (b : Bool) → nat_le (measure (c ∷ cs)) width ≡ b → Chained ((cond b (record { text = c ∷ cs; cost = measure (c ∷ cs) } ∷ []) (map character_unit (c ∷ cs))) ++ rest)
      by true e =
          let fits : measure (c ∷ cs) ≤ width = grind (arith, nat_tests, e) in
          chain-one (record { text = c ∷ cs; cost = measure (c ∷ cs) }) rest (λ wide. absurd (omega (arith, wide, fits))) chained
      by false e = (characters-chain (c ∷ cs) rest costs chained).0

  module _ (some : 0 < width) where
    behind-chain : (parts : List (List ℕ)) → Chained (flat_map (λ part. (space_unit ∷ []) ++ word_units width part) parts) × FirstCosts (flat_map (λ part. (space_unit ∷ []) ++ word_units width part) parts)
    behind-chain [] = (tt, tt)
    behind-chain (part ∷ parts) =
        let others = flat_map (λ part. (space_unit ∷ []) ++ word_units width part) parts in
        let rest = behind-chain parts in
        (chain-one space_unit (word_units width part ++ others) (λ wide. absurd (omega (arith, wide, some))) (word-chain part others rest.1 rest.0), omega arith)

    join-chain : (parts : List (List ℕ)) → Chained (join_by (word_units width) (space_unit ∷ []) parts)
    join-chain [] = tt
    join-chain (part ∷ parts) = let rest = behind-chain parts in word-chain part (flat_map (λ part. (space_unit ∷ []) ++ word_units width part) parts) rest.1 rest.0

    units-chain : (keep_words : Bool) (cs : List ℕ) → Chained (line_units width keep_words cs)
    units-chain true cs = join-chain (slice_split is_space cs)
    units-chain false cs = subst Chained (append-nil (map character_unit cs)) (characters-chain cs [] tt tt).0

  chain-front : (xs ys : List LineUnit) → Chained (xs ++ ys) → Chained xs
  chain-front [] ys chained = tt
  chain-front (x ∷ []) ys chained = tt
  chain-front (x ∷ y ∷ xs) ys chained = (chained.0, chain-front (y ∷ xs) ys chained.1)

  chain-rest : (x : LineUnit) (ys : List LineUnit) → Chained (x ∷ ys) → Chained ys
  chain-rest x [] chained = tt
  chain-rest x (y ∷ ys) chained = chained.1

  chain-behind : (xs ys : List LineUnit) → Chained (xs ++ ys) → Chained ys
  chain-behind [] ys chained = chained
  chain-behind (x ∷ xs) ys chained = chain-behind xs ys (chain-rest x (xs ++ ys) chained)

  not-narrow : (wide : LineUnit) (behind : List LineUnit) → prefix_len (unit_fits width) (wide ∷ behind) ≡ 0 → width < wide.cost
  not-narrow wide behind none = by (unit_fits width wide) refl
    where
      by : (b : Bool) → unit_fits width wide ≡ b → width < wide.cost
      by true e = absurd (omega (arith, none, prefix_len-pass (unit_fits width) wide behind e))
      by false e = grind (arith, nat_tests, e)

  nothing-behind : (wide : LineUnit) (behind : List LineUnit) → width < wide.cost → run_cost behind ≡ 0 → Chained (wide ∷ behind) → behind ≡ []
  nothing-behind wide [] more none chained = refl
  nothing-behind wide (v ∷ vs) more none chained = absurd (omega (arith, chained.0 more, none, sum_by-cons (λ (u : LineUnit). u.cost) v vs))

  run-alone : (run : List LineUnit) → FitsRun width run → Chained run → (wide : LineUnit) (behind : List LineUnit) → from_wide width run ≡ wide ∷ behind → behind ≡ []
  run-alone run fits chained wide behind e =
      let front = before_wide width run in
      let parted : run ≡ front ++ wide ∷ behind = sym (take-append-drop (prefix_len (unit_fits width) run) run) ∙ ap (λ (us : List LineUnit). front ++ us) e in
      let none : prefix_len (unit_fits width) (wide ∷ behind) ≡ 0 = ap (prefix_len (unit_fits width)) (sym e) ∙ prefix_len-drop_run (unit_fits width) run in
      let more = not-narrow wide behind none in
      let found = fits.wide front behind wide parted more in
      nothing-behind wide behind more found.1 (chain-behind front (wide ∷ behind) (subst Chained parted chained))

  runs-alone : (runs : List (List LineUnit)) → AllByRecursion (FitsRun width) runs → Chained (flat_map (λ run. run) runs)
      → AllByRecursion (λ run. (wide : LineUnit) (behind : List LineUnit) → from_wide width run ≡ wide ∷ behind → behind ≡ []) runs
  runs-alone [] fits chained = tt
  runs-alone (run ∷ runs) fits chained =
      let others = flat_map (λ (r : List LineUnit). r) runs in
      (run-alone run fits.0 (chain-front run others chained), runs-alone runs fits.1 (chain-behind run others chained))

  -- in the runs of a line
  pub all-alone : 0 < width → (keep_words : Bool) (cs : List ℕ)
      → AllByRecursion (λ run. (wide : LineUnit) (behind : List LineUnit) → from_wide width run ≡ wide ∷ behind → behind ≡ []) (runs_of width (line_units width keep_words cs))
  all-alone some keep_words cs =
      let units = line_units width keep_words cs in
      let runs = runs_of width units in
      let fitting = are-fitting_runs width units runs (runs-are width some units) in
      runs-alone runs (recursion_from_All (FitsRun width) runs fitting.fit) (subst Chained (sym fitting.joined) (units-chain some keep_words cs))
