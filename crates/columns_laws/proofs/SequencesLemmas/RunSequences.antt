-- The lines that a cell is wrapped into take its sequences of the input, and a start and an end each.
use Rattle.std.proofs.Common.{◌≡◌, ◌==◌, ◌&&◌, ◌+◌, ◌-◌, ◌*◌, ◌<◌, ◌≤◌, nat_lt, ℕ, Bool, true, false, List, [], ◌∷◌, ◌++◌, length, if◌then◌else◌, refl, ap, sym, subst, ◌∙◌, arith, length-append, append-nil}
use Rattle.std.specs.List.{AllByRecursion, prefix_len, repeat, sum_by}
use Rattle.std.proofs.lemmas.Bool.Decides.{nat_tests}
use Rattle.std.proofs.lemmas.List.{take-append-drop}
use Rattle.std.proofs.lemmas.List.Sums.{sum_by-append, sum_by-cons}
use Rattle.ansi_scan.specs.Attributes.{Attributes, IsRendition}
use Rattle.ansi_scan.specs.Joining.{put_all_before}
use Rattle.ansi_scan.specs.Pieces.{pieces}
use Rattle.ansi_scan.specs.Sequences.{EachStands, NoneBroken, Piece, joined}
use Rattle.ansi_scan.proofs.Existence.{ArePiecesOf-pieces}
use Rattle.ansi_scan.proofs.Joins.{ArePiecesOf-append, joined-put_all_before}
use Rattle.ansi_scan.proofs.Uniqueness.{pieces-ArePiecesOf}
use Rattle.ansi_str.specs.Cuts.{cut_part, later_part}
use Rattle.ansi_str.specs.Parts.{from_place}
use Rattle.ansi_str.specs.StyledText.{strip}
use Rattle.ansi_str.specs.Walking.{from_text}
use Rattle.ansi_str.specs.StyledText.{has_escape}
use Rattle.ansi_str_search.proofs.TextLemmas.Stripping.{strip-without_escape}
use Rattle.ansi_str_search.proofs.Dressed.{dressed_pieces}
use Rattle.ansi_str_search.proofs.Slices.{strip-dressed_pieces}
use Rattle.papergrid_picture.proofs.Shown.{pieces-nothing}
use Rattle.tabled_size_wrap.proofs.CellsLemmas.TextsWithoutEscape.{free-both, free-mark, free-none, free-repeat}
use Rattle.ansi_str_search.proofs.Merges.{alike-put_all_before}
use Rattle.ansi_str_search.proofs.TextLemmas.LastSequence.{strip-append}
use Rattle.tabled_size_wrap.specs.FittingRuns.{run_cost}
use Rattle.tabled_size_wrap.specs.Units.{LineUnit, unit_len}
use Rattle.tabled_size_wrap.specs.Wrapping.{from_wide, unit_fits, line_part, lines_of_runs, before_wide, replacement_bytes, run_len, shown_run}
use Rattle.columns_laws.proofs.SequencesLemmas.SequenceCounts.{texts_take, taken-sum, taken_by}
use Rattle.columns_laws.proofs.SequencesLemmas.LineSequences.{cut-whole, first-taken, later-parted, later-taken, later-whole, taken-parted}

-- two texts, of which the first is whole, take what each takes
pub taken-both : (a b : List ℕ) → NoneBroken (pieces a) → taken_by (pieces (a ++ b)) ≡ taken_by (pieces a) + taken_by (pieces b)
taken-both a b whole =
    let ps = pieces a in
    let qs = pieces b in
    let both : pieces (a ++ b) ≡ put_all_before ps qs = pieces-ArePiecesOf (a ++ b) (put_all_before ps qs) (ArePiecesOf-append a b ps qs (ArePiecesOf-pieces a) whole (ArePiecesOf-pieces b)) in
    omega (
      arith,
      ap taken_by both,
      taken-sum (put_all_before ps qs),
      taken-sum ps,
      taken-sum qs,
      ap (λ (xs : List ℕ). length xs) (joined-put_all_before ps qs),
      length-append (joined ps) (joined qs),
      ap (λ (xs : List ℕ). length xs) ((alike-put_all_before ps qs).strip_same ∙ strip-append ps qs),
      length-append (strip ps) (strip qs),
    )

module _ (style : Attributes) (is : IsRendition style) (slice : List Piece) (each : EachStands slice) (whole : NoneBroken slice) (some_text : 0 < length (strip slice)) where
  abbrev all : List Piece
  all = dressed_pieces style slice

  abbrev size : ℕ
  size = length (strip slice)

  -- what comes after a place; nothing of it was taken yet at the first
  abbrev left : ℕ → ℕ
  left place = if place == 0 then taken_by slice else taken_by (from_text (from_place place slice))

  left-first : left 0 ≡ taken_by slice
  left-first = refl

  left-later : (n : ℕ) → 0 < n → left n ≡ taken_by (from_text (from_place n slice))
  left-later n some =
      let other : (n == 0) ≡ false = grind (arith, nat_tests, some) in
      ap (λ (b : Bool). if b then taken_by slice else taken_by (from_text (from_place n slice))) other

  less-left : (a b : ℕ) → a ≤ b → b ≤ size → left b ≤ left a
  less-left a b order within = by (a == b) refl (a == 0) refl
    where
      by : (same : Bool) → (a == b) ≡ same → (first : Bool) → (a == 0) ≡ first → left b ≤ left a
      by true e first f = let at : a ≡ b = grind (arith, nat_tests, e) in subst (λ (n : ℕ). left n ≤ left a) at (omega arith)
      by false e true f =
          let at : a ≡ 0 = grind (arith, nat_tests, f) in
          let some : 0 < b = grind (arith, nat_tests, e, order, at) in
          omega (arith, left-later b some, taken-parted b slice each, ap left at, left-first)
      by false e false f =
          let some : 0 < a = grind (arith, nat_tests, f) in
          let less : a < b = grind (arith, nat_tests, e, order) in
          let more : 0 < b = omega (arith, some, less) in
          omega (arith, left-later a some, left-later b more, later-parted style is slice each whole a b some less within)

  -- a part and what comes after it
  has-text : nat_lt 0 (length (strip all)) ≡ true
  has-text = let more : 0 < length (strip all) = omega (arith, some_text, ap (λ (xs : List ℕ). length xs) (strip-dressed_pieces style slice)) in grind (arith, nat_tests, more)

  abbrev chosen : ℕ → ℕ → Bool → Bool → List ℕ
  chosen a b none first = if none then [] else if first then cut_part 0 b all else later_part a b all

  taken-nothing : taken_by (pieces []) ≡ 0
  taken-nothing = ap taken_by pieces-nothing

  part-left : (a b : ℕ) → a ≤ b → b ≤ size → taken_by (pieces (line_part all a b)) + left b ≤ left a + 243
  part-left a b order within =
      subst (λ (text : Bool). taken_by (pieces (chosen a b (a == b && text) (a == 0))) + left b ≤ left a + 243) (sym has-text) (by (a == b) refl (a == 0) refl)
    where
      by : (same : Bool) → (a == b) ≡ same → (first : Bool) → (a == 0) ≡ first → taken_by (pieces (chosen a b (same && true) first)) + left b ≤ left a + 243
      by true e first f = let at : a ≡ b = grind (arith, nat_tests, e) in omega (arith, taken-nothing, ap left at)
      by false e true f =
          let at : a ≡ 0 = grind (arith, nat_tests, f) in
          let some : 0 < b = grind (arith, nat_tests, e, order, at) in
          omega (arith, first-taken style is slice each whole b, left-later b some, taken-parted b slice each, ap left at, left-first)
      by false e false f =
          let some : 0 < a = grind (arith, nat_tests, f) in
          let less : a < b = grind (arith, nat_tests, e, order) in
          let more : 0 < b = omega (arith, some, less) in
          omega (
            arith,
            left-later a some,
            left-later b more,
            later-taken style is slice each whole a b some less within,
            later-parted style is slice each whole a b some less within,
          )

  part-whole : (a b : ℕ) → a ≤ b → NoneBroken (pieces (line_part all a b))
  part-whole a b order = by (a == b && nat_lt 0 (length (strip all))) (a == 0)
    where
      by : (none first : Bool) → NoneBroken (pieces (chosen a b none first))
      by true first = subst NoneBroken (sym pieces-nothing) tt
      by false true = cut-whole style is slice each whole b
      by false false = later-whole style is slice each whole a b order

  nowhere : (n : ℕ) → line_part all n n ≡ []
  nowhere n =
      let same : (n == n) ≡ true = grind (arith, nat_tests) in
      ap (λ (b : Bool). chosen n n (b && nat_lt 0 (length (strip all))) (n == 0)) same ∙ ap (λ (b : Bool). chosen n n b (n == 0)) has-text

  -- ---- one run

  -- nothing comes after a unit that costs more than the width
  abbrev pub Alone : ℕ → List LineUnit → Type 0
  Alone width run = (wide : LineUnit) (behind : List LineUnit) → from_wide width run ≡ wide ∷ behind → behind ≡ []

  pub marks-free : (n : ℕ) → taken_by (pieces (repeat n replacement_bytes ++ [])) ≡ 0
  marks-free n =
      let bytes = repeat n replacement_bytes ++ [] in
      let free : has_escape bytes ≡ false = free-none bytes (free-both (repeat n replacement_bytes) [] (free-repeat n replacement_bytes free-mark) tt) in
      let same = strip-without_escape bytes (pieces bytes) (ArePiecesOf-pieces bytes) free in
      omega (arith, taken-sum (pieces bytes), ap (λ (xs : List ℕ). length xs) same, ap (λ (xs : List ℕ). length xs) (ArePiecesOf-pieces bytes).joins)

  module _ (width : ℕ) where
    abbrev line_of : ℕ → List LineUnit → List LineUnit → List ℕ
    line_of place front from = shown_run unit_len (line_part all) replacement_bytes width place front from

    run-left : (place : ℕ) (run : List LineUnit) → Alone width run → place + run_len run ≤ size → taken_by (pieces (line_of place (before_wide width run) (from_wide width run))) + left (place + run_len run) ≤ left place + 243
    run-left place run alone within = by (from_wide width run) refl
      where
        front : List LineUnit
        front = before_wide width run

        parted : run ≡ front ++ from_wide width run
        parted = sym (take-append-drop (prefix_len (unit_fits width) run) run)

        by : (from : List LineUnit) → from_wide width run ≡ from → taken_by (pieces (line_of place front from)) + left (place + run_len run) ≤ left place + 243
        by [] e =
            let same : run_len run ≡ run_len front = ap run_len (parted ∙ ap (λ (us : List LineUnit). front ++ us) e ∙ append-nil front) in
            let low : place ≤ place + run_len front = omega arith in
            let high : place + run_len front ≤ size = omega (arith, within, same) in
            omega (arith, part-left place (place + run_len front) low high, ap (λ (n : ℕ). left (place + n)) same)
        by (wide ∷ behind) e =
            let none = alone wide behind e in
            let same : run_len run ≡ run_len front + unit_len wide =
            ap run_len (parted ∙ ap (λ (us : List LineUnit). front ++ us) (e ∙ ap (λ (us : List LineUnit). wide ∷ us) none)) ∙ sum_by-append unit_len front (wide ∷ []) ∙ ap (λ (n : ℕ). run_len front + n) (sum_by-cons unit_len wide [] ∙ (let nothing : unit_len wide + 0 ≡ unit_len wide = omega arith in nothing)) in
            let from = place + run_len front in
            let to = from + unit_len wide in
            let end : place + run_len run ≡ to = omega (arith, same) in
            let low : place ≤ from = omega arith in
            let high : from ≤ size = omega (arith, within, same) in
            let later : from ≤ to = omega arith in
            let inside : to ≤ size = omega (arith, within, same) in
            let last : line_part all to (to + run_len behind) ≡ [] =
            ap (λ (us : List LineUnit). line_part all to (to + run_len us)) none ∙ (let at : to + 0 ≡ to = omega arith in ap (λ (n : ℕ). line_part all to n) at) ∙ nowhere to in
            let marks = repeat (width - run_cost front) replacement_bytes in
            let line : line_of place front (wide ∷ behind) ≡ line_part all place from ++ (marks ++ []) = ap (λ (bytes : List ℕ). line_part all place from ++ (marks ++ bytes)) last in
            omega (
              arith,
              ap (λ (bytes : List ℕ). taken_by (pieces bytes)) line,
              taken-both (line_part all place from) (marks ++ []) (part-whole place from low),
              marks-free (width - run_cost front),
              part-left place from low high,
              less-left from to later inside,
              ap left end,
            )

    -- all lines
    pub lines-left : (place : ℕ) (runs : List (List LineUnit)) → AllByRecursion (Alone width) runs → place + sum_by run_len runs ≤ size
        → texts_take (lines_of_runs unit_len (line_part all) replacement_bytes width place runs) ≤ left place + 243 * length (lines_of_runs unit_len (line_part all) replacement_bytes width place runs)
    lines-left place [] alone within = omega arith
    lines-left place (run ∷ runs) alone within =
        let sum = sum_by-cons run_len run runs in
        let here : place + run_len run ≤ size = omega (arith, within, sum) in
        let others : place + run_len run + sum_by run_len runs ≤ size = omega (arith, within, sum) in
        omega (arith, run-left place run alone.0 here, lines-left (place + run_len run) runs alone.1 others)
