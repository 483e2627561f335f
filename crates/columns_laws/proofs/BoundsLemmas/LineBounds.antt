-- The lines that a line is wrapped into measure at most the width, and hold no line feed where it holds none.
use Rattle.std.proofs.Common.{◌≡◌, ◌≤◌, ◌<◌, ◌+◌, ◌-◌, ◌&&◌, ℕ, zero, suc, Bool, true, false, cond, List, [], ◌∷◌, ◌++◌, filter, flat_map, length, replicate, take, drop, slice_range, refl, ap, sym, subst, ◌∙◌, arith, append-nil, append_assoc}
use Rattle.std.specs.List.{AllByRecursion, list_all, prefix_len, repeat}
use Rattle.std.proofs.Math.Seq.{take-append_seam, drop-append_seam}
use Rattle.std.proofs.lemmas.Bool.Decides.{nat_tests}
use Rattle.std.proofs.lemmas.List.{drop-drop, take-append-drop}
use Rattle.std.proofs.lemmas.List.Elements.{recursion_from_All}
use Rattle.ansi_scan.proofs.Runs.{list_all-take_run, prefix_len-drop_run, prefix_len-pass}
use Rattle.ansi_str_search.proofs.Chars.{hold_both}
use Rattle.grid_records_fronts.proofs.BoundsLemmas.Spaces.{measure-marks}
use Rattle.grid_records_measure.specs.Cutting.{replacement}
use Rattle.grid_records_measure.specs.Measures.{measure}
use Rattle.grid_records_measure.specs.TextLines.{is_line_feed}
use Rattle.papergrid_picture.proofs.Shown.{All-drop, All-take}
use Rattle.tabled_size_wrap.specs.FittingRuns.{FitsRun, run_cost}
use Rattle.tabled_size_wrap.specs.Runs.{runs_of}
use Rattle.tabled_size_wrap.specs.Showing.{unit_size}
use Rattle.tabled_size_wrap.specs.Units.{LineUnit, line_units}
use Rattle.tabled_size_wrap.specs.Wrapping.{from_wide, unit_fits, lines_of_runs, before_wide, shown_run}
use Rattle.tabled_size_wrap.proofs.Fewest.{are-fitting_runs}
use Rattle.tabled_size_wrap.proofs.Longest.{runs-are}
use Rattle.tabled_size_wrap.proofs.Parts.{run_size, size-texts, texts-both}
use Rattle.tabled_size_wrap.proofs.AllUnits.{texts, texts-units}
use Rattle.columns_laws.proofs.BoundsLemmas.UnitBounds.{Stand, nothing-behind, stand-behind, stand-front, units-measure, units-stand}

-- no line feed is in it
abbrev pub IsInLine : ℕ → Type 0
IsInLine c = is_line_feed c ≡ false

abbrev pub FitsLine : ℕ → List ℕ → Type 0
FitsLine width line = (measure line ≤ width) × AllByRecursion IsInLine line

filter-all : (p : LineUnit → Bool) (us : List LineUnit) → list_all p us ≡ true → filter p us ≡ us
filter-all p [] all = refl
filter-all p (u ∷ us) all = by (p u) refl (filter-all p us (both (p u) (list_all p us) all).1)
  where
    both : (a b : Bool) → (a && b) ≡ true → (a ≡ true) × (b ≡ true)
    both true true e = (refl, refl)
    both true false e = absurd (cc e)
    both false b e = absurd (cc e)

    by : (b : Bool) → p u ≡ b → filter p us ≡ us → filter p (u ∷ us) ≡ u ∷ us
    by true e rest = ap (λ t. cond t (u ∷ filter p us) (filter p us)) e ∙ ap (λ (others : List LineUnit). u ∷ others) rest
    by false e rest = absurd (cc (sym e ∙ (both (p u) (list_all p us) all).0))

pub marks-are : (n : ℕ) → repeat n (replacement ∷ []) ≡ replicate n replacement
marks-are zero = refl
marks-are (suc n) = ap (λ (rest : List ℕ). replacement ∷ rest) (marks-are n)

pub marks-inside : (n : ℕ) → AllByRecursion IsInLine (replicate n replacement)
marks-inside zero = tt
marks-inside (suc n) = (refl, marks-inside n)

module _ (width : ℕ) (some : 0 < width) (cs : List ℕ) (inside : AllByRecursion IsInLine cs) where
  abbrev line_of : ℕ → List LineUnit → List LineUnit → List ℕ
  line_of place front from = shown_run unit_size (slice_range cs) (replacement ∷ []) width place front from

  slice-here : (i n : ℕ) (xs ys : List ℕ) → drop i cs ≡ xs ++ ys → n ≡ length xs → slice_range cs i (i + n) ≡ xs
  slice-here i n xs ys here size =
      let count : i + n - i ≡ length xs = omega (arith, size) in
      ap (λ k. take k (drop i cs)) count ∙ ap (take (length xs)) here ∙ take-append_seam xs ys

  drop-here : (i n : ℕ) (xs ys : List ℕ) → drop i cs ≡ xs ++ ys → n ≡ length xs → drop (i + n) cs ≡ ys
  drop-here i n xs ys here size = sym (drop-drop n i cs) ∙ ap (drop n) here ∙ ap (λ k. drop k (xs ++ ys)) size ∙ drop-append_seam xs ys

  slice-inside : (a b : ℕ) → AllByRecursion IsInLine (slice_range cs a b)
  slice-inside a b = All-take IsInLine (b - a) (drop a cs) (All-drop IsInLine a cs inside)

  run-inside : (place : ℕ) (front from : List LineUnit) → AllByRecursion IsInLine (line_of place front from)
  run-inside place front [] = slice-inside place (place + run_size front)
  run-inside place front (wide ∷ behind) =
      let at = place + run_size front in
      let to = at + unit_size wide in
      let end = to + run_size behind in
      let n = width - run_cost front in
      hold_both IsInLine (slice_range cs place at) (repeat n (replacement ∷ []) ++ slice_range cs to end) (slice-inside place at)
      (hold_both IsInLine (repeat n (replacement ∷ [])) (slice_range cs to end) (subst (AllByRecursion IsInLine) (sym (marks-are n)) (marks-inside n)) (slice-inside to end))

  module _ (place : ℕ) (run : List LineUnit) (rest : List ℕ) (here : drop place cs ≡ texts run ++ rest) (fits : FitsRun width run) (stand : Stand width run) where
    abbrev front : List LineUnit
    front = before_wide width run

    parted : run ≡ front ++ from_wide width run
    parted = sym (take-append-drop (prefix_len (unit_fits width) run) run)

    not-narrow : (wide : LineUnit) (behind : List LineUnit) → prefix_len (unit_fits width) (wide ∷ behind) ≡ 0 → width < wide.cost
    not-narrow wide behind none = by (unit_fits width wide) refl
      where
        by : (b : Bool) → unit_fits width wide ≡ b → width < wide.cost
        by true e = absurd (omega (arith, none, prefix_len-pass (unit_fits width) wide behind e))
        by false e = grind (arith, nat_tests, e)

    columns-by : (from : List LineUnit) → from_wide width run ≡ from → measure (line_of place front from) ≤ width
    columns-by [] e =
        let same : run ≡ front = parted ∙ ap (λ (us : List LineUnit). front ++ us) e ∙ append-nil front in
        let at : drop place cs ≡ texts front ++ rest = here ∙ ap (λ (us : List LineUnit). texts us ++ rest) same in
        let shown : measure (line_of place front []) ≡ measure (texts run) =
        ap measure (slice-here place (run_size front) (texts front) rest at (size-texts front)) ∙ ap (λ (us : List LineUnit). measure (texts us)) (sym same) in
        let all : filter (unit_fits width) run ≡ run =
        filter-all (unit_fits width) run (ap (list_all (unit_fits width)) same ∙ list_all-take_run (unit_fits width) run) in
        omega (arith, shown, units-measure width run stand, fits.narrow, ap run_cost all)
    columns-by (wide ∷ behind) e =
        let same : run ≡ front ++ wide ∷ behind = parted ∙ ap (λ (us : List LineUnit). front ++ us) e in
        let none : prefix_len (unit_fits width) (wide ∷ behind) ≡ 0 = ap (prefix_len (unit_fits width)) (sym e) ∙ prefix_len-drop_run (unit_fits width) run in
        let wider = not-narrow wide behind none in
        let more = fits.wide front behind wide same wider in
        let stand_here : Stand width (front ++ wide ∷ behind) = subst (Stand width) same stand in
        let alone : behind ≡ [] = nothing-behind width some wide behind wider more.1 (stand-behind width front (wide ∷ behind) stand_here) in
        let at : drop place cs ≡ texts front ++ (wide.text ++ (texts behind ++ rest)) =
        here ∙ ap (λ (us : List LineUnit). texts us ++ rest) same ∙ ap (λ (t : List ℕ). t ++ rest) (texts-both front (wide ∷ behind)) ∙ append_assoc (texts front) (wide.text ++ texts behind) rest
        ∙ ap (λ (t : List ℕ). texts front ++ t) (append_assoc wide.text (texts behind) rest) in
        let from = place + run_size front in
        let to = from + unit_size wide in
        let n = width - run_cost front in
        let first : slice_range cs place from ≡ texts front = slice-here place (run_size front) (texts front) (wide.text ++ (texts behind ++ rest)) at (size-texts front) in
        let past : drop from cs ≡ wide.text ++ (texts behind ++ rest) = drop-here place (run_size front) (texts front) (wide.text ++ (texts behind ++ rest)) at (size-texts front) in
        let past_wide : drop to cs ≡ texts behind ++ rest = drop-here from (unit_size wide) wide.text (texts behind ++ rest) past refl in
        let last : slice_range cs to (to + run_size behind) ≡ [] =
        slice-here to (run_size behind) (texts behind) rest past_wide (size-texts behind) ∙ ap texts alone in
        let shown : line_of place front (wide ∷ behind) ≡ texts front ++ replicate n replacement =
        ap (λ (t : List ℕ). t ++ (repeat n (replacement ∷ []) ++ slice_range cs to (to + run_size behind))) first
        ∙ ap (λ (t : List ℕ). texts front ++ (repeat n (replacement ∷ []) ++ t)) last
        ∙ ap (λ (t : List ℕ). texts front ++ t) (append-nil (repeat n (replacement ∷ [])) ∙ marks-are n) in
        omega (arith, ap measure shown, measure-marks (texts front) n, units-measure width front (stand-front width front (wide ∷ behind) stand_here), more.0)

    pub run-fits : FitsLine width (line_of place front (from_wide width run))
    run-fits = (columns-by (from_wide width run) refl, run-inside place front (from_wide width run))

    next : drop (place + run_size run) cs ≡ rest
    next = drop-here place (run_size run) (texts run) rest here (size-texts run)

  lines-fit : (place : ℕ) (runs : List (List LineUnit)) → drop place cs ≡ texts (flat_map (λ run. run) runs) → AllByRecursion (FitsRun width) runs → Stand width (flat_map (λ run. run) runs)
      → AllByRecursion (FitsLine width) (lines_of_runs unit_size (slice_range cs) (replacement ∷ []) width place runs)
  lines-fit place [] here fit stand = tt
  lines-fit place (run ∷ runs) here fit stand =
      let others = flat_map (λ (r : List LineUnit). r) runs in
      let at : drop place cs ≡ texts run ++ texts others = here ∙ texts-both run others in
      let first : Stand width run = stand-front width run others stand in (
        run-fits place run (texts others) at fit.0 first,
        lines-fit (place + run_size run) runs (next place run (texts others) at fit.0 first) fit.1 (stand-behind width run others stand),
      )

  -- those of its own runs
  pub wrapped_lines-fit : (keep_words : Bool) → AllByRecursion (FitsLine width) (lines_of_runs unit_size (slice_range cs) (replacement ∷ []) width 0 (runs_of width (line_units width keep_words cs)))
  wrapped_lines-fit keep_words =
      let units = line_units width keep_words cs in
      let runs = runs_of width units in
      let fitting = are-fitting_runs width units runs (runs-are width some units) in
      let same : cs ≡ texts (flat_map (λ run. run) runs) = sym (ap texts fitting.joined ∙ texts-units width keep_words cs) in
      lines-fit 0 runs same (recursion_from_All (FitsRun width) runs fitting.fit) (subst (Stand width) (sym fitting.joined) (units-stand width keep_words cs))
