-- The function of runs shows what each run shows, and nothing else does.
use Rattle.std.proofs.Common.{◌≡◌, ◌≤◌, ◌<◌, ◌+◌, ◌++◌, ℕ, Bool, true, false, List, [], ◌∷◌, slice_range, refl, ap, sym, subst, ◌∙◌, arith}
use Rattle.std.proofs.lemmas.Bool.Decides.{nat_tests}
use Rattle.tabled_size_wrap.specs.Showing.{unit_size}
use Rattle.tabled_size_wrap.specs.Units.{LineUnit}
use Rattle.tabled_size_wrap.specs.Wrapping.{from_wide, unit_fits, lines_of_runs, before_wide, shown_run}
use Rattle.tabled_size_wrap.proofs.Runs.{front-cons, front-wide}
use Rattle.tabled_size_wrap.specs.Cells.Resized.{AreNarrow, ShowRuns, ShowsRun, parted, run_size, whole}

module _ (width : ℕ) where
  narrow-test : (unit : LineUnit) → unit.cost ≤ width → unit_fits width unit ≡ true
  narrow-test unit less = grind (arith, nat_tests, less)

  wide-test : (unit : LineUnit) → width < unit.cost → unit_fits width unit ≡ false
  wide-test unit more = grind (arith, nat_tests, more)

  -- narrow units are their own narrow prefix, also before a wide one
  front-whole : (run : List LineUnit) → AreNarrow width run → (before_wide width run ≡ run) × (from_wide width run ≡ [])
  front-whole [] all = (refl, refl)
  front-whole (unit ∷ run) all =
      let fronts = front-cons width unit run (narrow-test unit all.0) in
      let rest = front-whole run all.1 in
      (fronts.0 ∙ ap (λ (units : List LineUnit). unit ∷ units) rest.0, fronts.1 ∙ rest.1)

  front-parted : (before behind : List LineUnit) (wide : LineUnit) → AreNarrow width before → width < wide.cost
      → (before_wide width (before ++ wide ∷ behind) ≡ before) × (from_wide width (before ++ wide ∷ behind) ≡ wide ∷ behind)
  front-parted [] behind wide all more = front-wide width wide behind (wide-test wide more)
  front-parted (unit ∷ before) behind wide all more =
      let fronts = front-cons width unit (before ++ wide ∷ behind) (narrow-test unit all.0) in
      let rest = front-parted before behind wide all.1 more in
      (fronts.0 ∙ ap (λ (units : List LineUnit). unit ∷ units) rest.0, fronts.1 ∙ rest.1)

  -- and each run is of one kind or the other
  record IsParted (run before behind : List LineUnit) (wide : LineUnit) : Type 0 where
    split : run ≡ before ++ wide ∷ behind
    narrow : AreNarrow width before
    more : width < wide.cost

  none-wide : (run : List LineUnit) → from_wide width run ≡ [] → AreNarrow width run
  none-wide [] none = tt
  none-wide (unit ∷ run) none = step (none-wide run) (unit_fits width unit) refl where
    step : (from_wide width run ≡ [] → AreNarrow width run) → (b : Bool) → unit_fits width unit ≡ b → AreNarrow width (unit ∷ run)
    step rest true test =
        let less : unit.cost ≤ width = grind (arith, nat_tests, test) in
        (less, rest (sym (front-cons width unit run test).1 ∙ none))
    step rest false test = let found : unit ∷ run ≡ [] = sym (front-wide width unit run test).1 ∙ none in absurd (cc found)

  some-wide : (run behind : List LineUnit) (wide : LineUnit) → from_wide width run ≡ wide ∷ behind → IsParted run (before_wide width run) behind wide
  some-wide [] behind wide found = absurd (cc found)
  some-wide (unit ∷ run) behind wide found = step (some-wide run behind wide) (unit_fits width unit) refl where
    step : (from_wide width run ≡ wide ∷ behind → IsParted run (before_wide width run) behind wide) → (b : Bool) → unit_fits width unit ≡ b → IsParted (unit ∷ run) (before_wide width (unit ∷ run)) behind wide
    step behind_it true test =
        let less : unit.cost ≤ width = grind (arith, nat_tests, test) in
        let fronts = front-cons width unit run test in
        let rest = behind_it (sym fronts.1 ∙ found) in
        subst (λ (before : List LineUnit). IsParted (unit ∷ run) before behind wide) (sym fronts.0)
        (record { split = ap (λ (units : List LineUnit). unit ∷ units) rest.split; narrow = (less, rest.narrow); more = rest.more })
    step behind_it false test =
        let fronts = front-wide width unit run test in
        let same : unit ∷ run ≡ wide ∷ behind = sym fronts.1 ∙ found in
        let first : unit ≡ wide = cc same in
        let more : width < unit.cost = grind (arith, nat_tests, test) in
        subst (λ (before : List LineUnit). IsParted (unit ∷ run) before behind wide) (sym fronts.0)
        (record { split = same; narrow = tt; more = subst (λ (u : LineUnit). width < u.cost) first more })

module _ {X : Type 0} (mark : List X) (width : ℕ) (line : List X) where
  abbrev run_items : ℕ → List LineUnit → List LineUnit → List X
  run_items place front behind = shown_run unit_size (slice_range line) mark width place front behind

  run-shown : (place : ℕ) (run : List LineUnit) → ShowsRun mark width line place run (run_items place (before_wide width run) (from_wide width run))
  run-shown place run = step (from_wide width run) refl where
    step : (found : List LineUnit) → from_wide width run ≡ found → ShowsRun mark width line place run (run_items place (before_wide width run) (from_wide width run))
    step [] none =
        let all = none-wide width run none in
        whole all (ap (run_items place (before_wide width run)) none ∙ ap (λ (front : List LineUnit). run_items place front []) (front-whole width run all).0)
    step (wide ∷ behind) found =
        let is = some-wide width run behind wide found in
        parted (before_wide width run) behind wide is.split is.narrow is.more (ap (run_items place (before_wide width run)) found)

  run-shown-one : (place : ℕ) (run : List LineUnit) (shown : List X) → ShowsRun mark width line place run shown → shown ≡ run_items place (before_wide width run) (from_wide width run)
  run-shown-one place run shown (whole all is) =
      let fronts = front-whole width run all in
      is ∙ ap (λ (front : List LineUnit). run_items place front []) (sym fronts.0) ∙ ap (run_items place (before_wide width run)) (sym fronts.1)
  run-shown-one place run shown (parted before behind wide split all more is) =
      let fronts = front-parted width before behind wide all more in
      is
      ∙ ap (λ (front : List LineUnit). run_items place front (wide ∷ behind)) (sym (ap (before_wide width) split ∙ fronts.0))
      ∙ ap (run_items place (before_wide width run)) (sym (ap (from_wide width) split ∙ fronts.1))

  pub runs-shown : (place : ℕ) (runs : List (List LineUnit)) → ShowRuns mark width line place runs (lines_of_runs unit_size (slice_range line) mark width place runs)
  runs-shown place [] = refl
  runs-shown place (run ∷ runs) = (run-shown place run, runs-shown (place + run_size run) runs)

  pub runs-shown-one : (place : ℕ) (runs : List (List LineUnit)) (lines : List (List X)) → ShowRuns mark width line place runs lines → lines ≡ lines_of_runs unit_size (slice_range line) mark width place runs
  runs-shown-one place [] lines is = is
  runs-shown-one place (run ∷ runs) [] is = absurd is
  runs-shown-one place (run ∷ runs) (shown ∷ lines) is =
      ap (λ (first : List X). first ∷ lines) (run-shown-one place run shown is.0)
      ∙ ap (λ (rest : List (List X)). run_items place (before_wide width run) (from_wide width run) ∷ rest) (runs-shown-one (place + run_size run) runs lines is.1)
