-- What wrapping adds to a text whose characters are at most as wide as its lines, and how wide these are.
use Rattle.std.proofs.Common.{◌≡◌, ◌≤◌, ◌<◌, ℕ, ◌+◌, ◌-◌, ◌||◌, ◌&&◌, nat_le, Bool, true, false, cond, List, [], ◌∷◌, ◌++◌, length, map, flat_map, filter, take, drop, slice_range, refl, ap, sym, subst, ◌∙◌, arith}
use Rattle.std.specs.List.{AllByRecursion, AllZip, join_by, list_all, onto_first, slice_split, sum_by}
use Rattle.std.proofs.Math.Seq.{take-add, take-append_seam, drop-append_seam, take-length}
use Rattle.std.proofs.lemmas.Bool.Decides.{nat_tests}
use Rattle.std.proofs.lemmas.List.Elements.{recursion_from_All}
use Rattle.std.proofs.lemmas.List.{drop-drop, drop-map, length-map, take-map}
use Rattle.std.proofs.lemmas.List.Sums.{sum_by-append, sum_by-cons}
use Rattle.std.proofs.lemmas.List.Splits.{length-slice_split, slice_split-cons_no, slice_split-cons_yes}
use Rattle.ansi_str_search.proofs.Chars.{both_hold, hold_both}
use Rattle.grid_records_measure.specs.Measures.{cost, line_cost, measure, own_width}
use Rattle.grid_records_measure.specs.PlainCharacters.{is_plain_character}
use Rattle.grid_records_measure.specs.Tabs.{space}
use Rattle.grid_records_measure.specs.TextLines.{line_feed}
use Rattle.grid_records_measure.proofs.Plain.{line_cost-plain, measure-plain, one-column}
use Rattle.tabled_size_wrap.specs.Units.{LineUnit, character_unit, space_unit, word_units, is_space, line_units}
use Rattle.tabled_size_wrap.specs.FittingRuns.{run_cost, FitsRun}
use Rattle.tabled_size_wrap.specs.Wrapping.{unit_fits, before_wide, from_wide, shown_run, lines_of_runs}
use Rattle.tabled_size_wrap.specs.Showing.{Styled, in_plain, characters_of, ends_line, joined_lines, unit_size, with_plain_line_feeds, AreShownLines}
use Rattle.tabled_size_wrap.proofs.AllUnits.{texts, texts-units}
use Rattle.tabled_size_wrap.proofs.Runs.{front-cons}
use Rattle.tabled_size_wrap.proofs.Fewest.{are-fitting_runs}
use Rattle.tabled_size_wrap.proofs.Parts.{run_size, size-texts, texts-both}

-- ---- the parts of a list

module _ {X : Type 0} (p : X → Bool) (P Q : X → Type 0) (each : (x : X) → P x → p x ≡ false → Q x) where
  onto-hold : (x : X) (parts : List (List X)) → Q x → AllByRecursion (AllByRecursion Q) parts → AllByRecursion (AllByRecursion Q) (onto_first x parts)
  onto-hold x [] here all = ((here, tt), tt)
  onto-hold x (part ∷ parts) here all = ((here, all.0), all.1)

  parts-hold : (xs : List X) → AllByRecursion P xs → AllByRecursion (AllByRecursion Q) (slice_split p xs)
  parts-hold [] all = (tt, tt)
  parts-hold (x ∷ xs) all = by (p x) refl (parts-hold xs all.1)
    where
      by : (ends : Bool) → p x ≡ ends → AllByRecursion (AllByRecursion Q) (slice_split p xs) → AllByRecursion (AllByRecursion Q) (slice_split p (x ∷ xs))
      by true e rest = subst (AllByRecursion (AllByRecursion Q)) (sym (slice_split-cons_yes p x xs e)) (tt, rest)
      by false e rest = subst (AllByRecursion (AllByRecursion Q)) (sym (slice_split-cons_no p x xs e)) (onto-hold x (slice_split p xs) (each x all.0 e) rest)

-- ---- what holds of each unit of a line

module _ (width : ℕ) (P : ℕ → Type 0) (Q : LineUnit → Type 0) (of_character : (c : ℕ) → P c → Q (character_unit c)) (of_space : Q space_unit)
    (of_word : (word : List ℕ) → AllByRecursion P word → measure word ≤ width → Q (record { text = word; cost = measure word })) where
  characters-hold : (cs : List ℕ) → AllByRecursion P cs → AllByRecursion Q (map character_unit cs)
  characters-hold [] all = tt
  characters-hold (c ∷ cs) all = (of_character c all.0, characters-hold cs all.1)

  word-holds : (word : List ℕ) → AllByRecursion P word → AllByRecursion Q (word_units width word)
  word-holds [] all = tt
  word-holds (c ∷ cs) all = by (nat_le (measure (c ∷ cs)) width) refl
    where
      by : (fits : Bool) → nat_le (measure (c ∷ cs)) width ≡ fits → AllByRecursion Q (word_units width (c ∷ cs))
      by true e = subst (λ t. AllByRecursion Q (cond t (record { text = c ∷ cs; cost = measure (c ∷ cs) } ∷ []) (map character_unit (c ∷ cs)))) (sym e) (of_word (c ∷ cs) all (grind (arith, nat_tests)), tt)
      by false e = subst (λ t. AllByRecursion Q (cond t (record { text = c ∷ cs; cost = measure (c ∷ cs) } ∷ []) (map character_unit (c ∷ cs)))) (sym e) (characters-hold (c ∷ cs) all)

  behind-hold : (parts : List (List ℕ)) → AllByRecursion (AllByRecursion P) parts → AllByRecursion Q (flat_map (λ part. (space_unit ∷ []) ++ word_units width part) parts)
  behind-hold [] all = tt
  behind-hold (part ∷ parts) all =
      hold_both Q ((space_unit ∷ []) ++ word_units width part) (flat_map (λ others. (space_unit ∷ []) ++ word_units width others) parts) (of_space, word-holds part all.0) (behind-hold parts all.1)

  join-holds : (parts : List (List ℕ)) → AllByRecursion (AllByRecursion P) parts → AllByRecursion Q (join_by (word_units width) (space_unit ∷ []) parts)
  join-holds [] all = tt
  join-holds (part ∷ parts) all =
      hold_both Q (word_units width part) (flat_map (λ others. (space_unit ∷ []) ++ word_units width others) parts) (word-holds part all.0) (behind-hold parts all.1)

  units-hold : (keep_words : Bool) (cs : List ℕ) → AllByRecursion P cs → AllByRecursion Q (line_units width keep_words cs)
  units-hold true cs all = join-holds (slice_split is_space cs) (parts-hold is_space P P (λ c here _. here) cs all)
  units-hold false cs all = characters-hold cs all

-- ---- units that cost at most the width

module _ (width : ℕ) where
  abbrev Narrow : LineUnit → Type 0
  Narrow unit = unit.cost ≤ width

  narrow-units : (keep_words : Bool) (cs : List ℕ) → 0 < width → AllByRecursion (λ c. own_width c ≤ width) cs → AllByRecursion Narrow (line_units width keep_words cs)
  narrow-units keep_words cs some all =
      units-hold width (λ c. own_width c ≤ width) Narrow (λ c fits. omega (arith, fits, some)) (omega (arith, some)) (λ word _ fits. fits) keep_words cs all

  narrow-run : (run : List LineUnit) → AllByRecursion Narrow run → (before_wide width run ≡ run) × (from_wide width run ≡ [])
  narrow-run [] all = (refl, refl)
  narrow-run (u ∷ run) all =
      let fits = all.0 in
      let test : unit_fits width u ≡ true = grind (arith, nat_tests) in
      let fronts = front-cons width u run test in
      let rest = narrow-run run all.1 in
      (fronts.0 ∙ ap (λ (us : List LineUnit). u ∷ us) rest.0, fronts.1 ∙ rest.1)

  all-kept : (run : List LineUnit) → AllByRecursion Narrow run → filter (λ unit. nat_le unit.cost width) run ≡ run
  all-kept [] all = refl
  all-kept (u ∷ run) all =
      let fits = all.0 in
      let test : nat_le u.cost width ≡ true = grind (arith, nat_tests) in
      ap (λ t. cond t (u ∷ filter (λ unit. nat_le unit.cost width) run) (filter (λ unit. nat_le unit.cost width) run)) test ∙ ap (λ (us : List LineUnit). u ∷ us) (all-kept run all.1)

  -- ---- the lines of narrow units

  module _ (xs : List Styled) where
    abbrev line_of : ℕ → List LineUnit → List Styled
    line_of i run = shown_run unit_size (slice_range xs) (in_plain 0xfffd ∷ []) width i (before_wide width run) (from_wide width run)

    abbrev lines_of : ℕ → List (List LineUnit) → List (List Styled)
    lines_of i runs = lines_of_runs unit_size (slice_range xs) (in_plain 0xfffd ∷ []) width i runs

    narrow-line : (i : ℕ) (run : List LineUnit) → AllByRecursion Narrow run → line_of i run ≡ slice_range xs i (i + run_size run)
    narrow-line i run all =
        let is = narrow-run run all in
        ap (λ (front : List LineUnit). shown_run unit_size (slice_range xs) (in_plain 0xfffd ∷ []) width i front (from_wide width run)) is.0
        ∙ ap (λ (from : List LineUnit). shown_run unit_size (slice_range xs) (in_plain 0xfffd ∷ []) width i run from) is.1

    slices-both : (i n m : ℕ) → slice_range xs i (i + n) ++ slice_range xs (i + n) (i + n + m) ≡ slice_range xs i (i + (n + m))
    slices-both i n m =
        let first : i + n - i ≡ n = omega arith in
        let second : i + n + m - (i + n) ≡ m = omega arith in
        let sum : n + m ≡ i + (n + m) - i = omega arith in
        ap (λ k. take k (drop i xs) ++ slice_range xs (i + n) (i + n + m)) first
        ∙ ap (λ k. take n (drop i xs) ++ take k (drop (i + n) xs)) second
        ∙ ap (λ (left : List Styled). take n (drop i xs) ++ take m left) (sym (drop-drop n i xs))
        ∙ sym (take-add n m (drop i xs))
        ∙ ap (λ k. take k (drop i xs)) sum

    narrow-lines : (runs : List (List LineUnit)) (i : ℕ) → AllByRecursion Narrow (flat_map (λ run. run) runs)
        → flat_map (λ line. line) (lines_of i runs) ≡ slice_range xs i (i + run_size (flat_map (λ run. run) runs))
    narrow-lines [] i all = let none : 0 ≡ i + 0 - i = omega arith in ap (λ n. take n (drop i xs)) none
    narrow-lines (run ∷ runs) i all =
        let others = flat_map (λ r. r) runs in
        let holds = both_hold Narrow run others all in
        let sum = sum_by-append unit_size run others in
        ap (λ line. line ++ flat_map (λ l. l) (lines_of (i + run_size run) runs)) (narrow-line i run holds.0)
        ∙ ap (λ (rest : List Styled). slice_range xs i (i + run_size run) ++ rest) (narrow-lines runs (i + run_size run) holds.1)
        ∙ slices-both i (run_size run) (run_size others)
        ∙ ap (λ n. slice_range xs i (i + n)) (sym sum)

  -- ---- a line without the line feeds that wrapping adds

  without-added : (keep_words : Bool) (xs : List Styled) (lines : List (List Styled)) → 0 < width → AllByRecursion (λ c. own_width c ≤ width) (characters_of xs) → AreShownLines width keep_words xs lines
      → flat_map (λ line. line) lines ≡ xs
  without-added keep_words xs lines some all are =
      let cs = characters_of xs in
      let units = line_units width keep_words cs in
      let joined = (are-fitting_runs width units are.0 are.1).joined in
      let narrow = subst (AllByRecursion Narrow) (sym joined) (narrow-units keep_words cs some all) in
      let size : run_size (flat_map (λ run. run) are.0) ≡ length xs =
      ap run_size joined ∙ size-texts units ∙ ap length (texts-units width keep_words cs) ∙ length-map xs (λ (x : Styled). x.0) in
      let end : 0 + run_size (flat_map (λ run. run) are.0) - 0 ≡ length xs = omega (arith, size) in
      ap (flat_map (λ line. line)) are.2 ∙ narrow-lines xs are.0 0 narrow ∙ ap (λ n. take n xs) end ∙ take-length xs

-- ---- the lines of a text, without the line feeds that wrapping adds

abbrev pub FitsCharacter : ℕ → Styled → Type 0
FitsCharacter width x = own_width x.0 ≤ width

characters-hold-of : (P : ℕ → Type 0) (xs : List Styled) → AllByRecursion (λ x. P x.0) xs → AllByRecursion P (characters_of xs)
characters-hold-of P [] all = tt
characters-hold-of P (x ∷ xs) all = (all.0, characters-hold-of P xs all.1)

pub of-characters : (P : ℕ → Type 0) (xs : List Styled) → AllByRecursion P (characters_of xs) → AllByRecursion (λ x. P x.0) xs
of-characters P [] all = tt
of-characters P (x ∷ xs) all = (all.0, of-characters P xs all.1)

lines-without : (width : ℕ) (keep_words : Bool) → 0 < width → (parts : List (List Styled)) (lines : List (List (List Styled))) → AllByRecursion (AllByRecursion (FitsCharacter width)) parts
    → AllZip (AreShownLines width keep_words) parts lines → map (flat_map (λ line. line)) lines ≡ parts
lines-without width keep_words some [] [] all are = refl
lines-without width keep_words some [] (lines ∷ others) all are = absurd are
lines-without width keep_words some (part ∷ parts) [] all are = absurd are
lines-without width keep_words some (part ∷ parts) (lines ∷ others) all are =
    ap (λ (first : List Styled). first ∷ map (flat_map (λ line. line)) others) (without-added width keep_words part lines some (characters-hold-of (λ c. own_width c ≤ width) part all.0) are.0)
    ∙ ap (λ (rest : List (List Styled)). part ∷ rest) (lines-without width keep_words some parts others all.1 are.1)

joined-behind : (parts : List (List Styled)) → 0 < length parts → joined_lines ([] ∷ parts) ≡ in_plain line_feed ∷ joined_lines parts
joined-behind [] some = absurd (omega (arith, some))
joined-behind (part ∷ parts) some = refl

joined-onto : (x : Styled) (parts : List (List Styled)) → 0 < length parts → joined_lines (onto_first x parts) ≡ x ∷ joined_lines parts
joined-onto x [] some = absurd (omega (arith, some))
joined-onto x (part ∷ parts) some = refl

parts-joined : (xs : List Styled) → joined_lines (slice_split ends_line xs) ≡ with_plain_line_feeds xs
parts-joined [] = refl
parts-joined (x ∷ xs) = by (ends_line x) refl (parts-joined xs)
  where
    some : 0 < length (slice_split ends_line xs)
    some = omega (arith, length-slice_split ends_line xs)

    by : (ends : Bool) → ends_line x ≡ ends → joined_lines (slice_split ends_line xs) ≡ with_plain_line_feeds xs → joined_lines (slice_split ends_line (x ∷ xs)) ≡ with_plain_line_feeds (x ∷ xs)
    by true e rest =
        ap joined_lines (slice_split-cons_yes ends_line x xs e) ∙ joined-behind (slice_split ends_line xs) some ∙ ap (λ (others : List Styled). in_plain line_feed ∷ others) rest
        ∙ ap (λ t. cond t (in_plain line_feed) x ∷ with_plain_line_feeds xs) (sym e)
    by false e rest =
        ap joined_lines (slice_split-cons_no ends_line x xs e) ∙ joined-onto x (slice_split ends_line xs) some ∙ ap (λ (others : List Styled). x ∷ others) rest
        ∙ ap (λ t. cond t (in_plain line_feed) x ∷ with_plain_line_feeds xs) (sym e)

pub without-added-all : (width : ℕ) (keep_words : Bool) (xs : List Styled) (lines : List (List (List Styled))) → 0 < width → AllByRecursion (FitsCharacter width) xs
    → AllZip (AreShownLines width keep_words) (slice_split ends_line xs) lines → joined_lines (map (flat_map (λ line. line)) lines) ≡ with_plain_line_feeds xs
without-added-all width keep_words xs lines some all are =
    ap joined_lines (lines-without width keep_words some (slice_split ends_line xs) lines (parts-hold ends_line (FitsCharacter width) (FitsCharacter width) (λ x fits _. fits) xs all) are)
    ∙ parts-joined xs

-- ---- lines of plain characters

abbrev IsPlain : ℕ → Type 0
IsPlain c = is_plain_character c ≡ true

all-plain : (cs : List ℕ) → AllByRecursion IsPlain cs → list_all is_plain_character cs ≡ true
all-plain [] all = refl
all-plain (c ∷ cs) all = ap (λ b. b && list_all is_plain_character cs) all.0 ∙ all-plain cs all.1

-- a unit costs what its characters take one by one
abbrev AddsUp : LineUnit → Type 0
AddsUp unit = sum_by own_width unit.text ≡ unit.cost

character-adds : (c : ℕ) → IsPlain c → AddsUp (character_unit c)
character-adds c is =
    let same = line_cost-plain (c ∷ []) (ap (λ b. b && true) is) in
    let one : line_cost (c ∷ []) ≡ cost c + 0 = sum_by-cons cost c [] in
    sym same ∙ one ∙ omega arith

space-adds : AddsUp space_unit
space-adds = sum_by-cons own_width space [] ∙ ap (λ n. n + 0) (one-column space refl)

units-add : (width : ℕ) (keep_words : Bool) (cs : List ℕ) → AllByRecursion IsPlain cs → AllByRecursion AddsUp (line_units width keep_words cs)
units-add width keep_words cs all =
    units-hold width IsPlain AddsUp character-adds space-adds (λ word plain_word _. sym (measure-plain word (all-plain word plain_word))) keep_words cs all

texts-add : (us : List LineUnit) → AllByRecursion AddsUp us → sum_by own_width (texts us) ≡ run_cost us
texts-add [] all = refl
texts-add (u ∷ us) all =
    sum_by-append own_width u.text (texts us) ∙ ap (λ n. n + sum_by own_width (texts us)) all.0 ∙ ap (λ n. u.cost + n) (texts-add us all.1)
    ∙ sym (sum_by-cons (λ (v : LineUnit). v.cost) u us)

-- the characters of a slice, from what comes after its start
slice-characters : (xs : List Styled) (i n : ℕ) → characters_of (slice_range xs i (i + n)) ≡ take n (drop i (characters_of xs))
slice-characters xs i n =
    let size : i + n - i ≡ n = omega arith in
    ap (λ k. characters_of (take k (drop i xs))) size ∙ sym (take-map (λ (x : Styled). x.0) n (drop i xs)) ∙ ap (take n) (sym (drop-map (λ (x : Styled). x.0) i xs))

abbrev pub Fits : ℕ → List Styled → Type 0
Fits width line = measure (characters_of line) ≤ width

module _ (width : ℕ) (xs : List Styled) where
  narrow-fits : (runs : List (List LineUnit)) (i : ℕ) → drop i (characters_of xs) ≡ texts (flat_map (λ run. run) runs) → AllByRecursion IsPlain (texts (flat_map (λ run. run) runs))
      → AllByRecursion (FitsRun width) runs → AllByRecursion (Narrow width) (flat_map (λ run. run) runs) → AllByRecursion AddsUp (flat_map (λ run. run) runs)
      → AllByRecursion (Fits width) (lines_of width xs i runs)
  narrow-fits [] i are plain_all fit narrow add = tt
  narrow-fits (run ∷ runs) i are plain_all fit narrow add =
      let others = flat_map (λ r. r) runs in
      let here : drop i (characters_of xs) ≡ texts run ++ texts others = are ∙ texts-both run others in
      let plain_both = both_hold IsPlain (texts run) (texts others) (subst (AllByRecursion IsPlain) (texts-both run others) plain_all) in
      let narrow_both = both_hold (Narrow width) run others narrow in
      let add_both = both_hold AddsUp run others add in
      let shown : characters_of (line_of width xs i run) ≡ texts run =
      ap characters_of (narrow-line width xs i run narrow_both.0) ∙ slice-characters xs i (run_size run)
      ∙ ap (take (run_size run)) here ∙ ap (λ n. take n (texts run ++ texts others)) (size-texts run) ∙ take-append_seam (texts run) (texts others) in
      let columns-are : measure (characters_of (line_of width xs i run)) ≡ run_cost run =
      ap measure shown ∙ measure-plain (texts run) (all-plain (texts run) plain_both.0) ∙ texts-add run add_both.0 in
      let kept = ap run_cost (all-kept width run narrow_both.0) in
      let less = fit.0.narrow in
      let behind : drop (i + run_size run) (characters_of xs) ≡ texts others =
      sym (drop-drop (run_size run) i (characters_of xs)) ∙ ap (drop (run_size run)) here ∙ ap (λ n. drop n (texts run ++ texts others)) (size-texts run) ∙ drop-append_seam (texts run) (texts others) in
      (omega (arith, columns-are, kept, less), narrow-fits runs (i + run_size run) behind plain_both.1 fit.1 narrow_both.1 add_both.1)

  line-fits : (keep_words : Bool) (lines : List (List Styled)) → 0 < width → AllByRecursion (λ c. own_width c ≤ width) (characters_of xs) → AllByRecursion IsPlain (characters_of xs)
      → AreShownLines width keep_words xs lines → AllByRecursion (Fits width) lines
  line-fits keep_words lines some all plain_all are =
      let cs = characters_of xs in
      let units = line_units width keep_words cs in
      let fitting = are-fitting_runs width units are.0 are.1 in
      let same : cs ≡ texts (flat_map (λ run. run) are.0) = sym (ap texts fitting.joined ∙ texts-units width keep_words cs) in
      let narrow = subst (AllByRecursion (Narrow width)) (sym fitting.joined) (narrow-units width keep_words cs some all) in
      let add = subst (AllByRecursion AddsUp) (sym fitting.joined) (units-add width keep_words cs plain_all) in
      subst (AllByRecursion (Fits width)) (sym are.2)
      (narrow-fits are.0 0 same (subst (AllByRecursion IsPlain) same plain_all) (recursion_from_All (FitsRun width) are.0 fitting.fit) narrow add)

abbrev pub IsPlainOrEnds : Styled → Type 0
IsPlainOrEnds x = (is_plain_character x.0 || ends_line x) ≡ true

plain-inside : (x : Styled) → IsPlainOrEnds x → ends_line x ≡ false → IsPlain x.0
plain-inside x is inside = by (is_plain_character x.0) (ends_line x) is inside
  where
    by : (plain_one ends : Bool) → (plain_one || ends) ≡ true → ends ≡ false → plain_one ≡ true
    by true ends is inside = refl
    by false ends is inside = absurd (cc (sym inside ∙ is))

lines-fit : (width : ℕ) (keep_words : Bool) → 0 < width → (parts : List (List Styled)) (lines : List (List (List Styled))) → AllByRecursion (AllByRecursion (FitsCharacter width)) parts
    → AllByRecursion (AllByRecursion (λ x. IsPlain x.0)) parts → AllZip (AreShownLines width keep_words) parts lines → AllByRecursion (Fits width) (flat_map (λ others. others) lines)
lines-fit width keep_words some [] [] all plain_all are = tt
lines-fit width keep_words some [] (lines ∷ others) all plain_all are = absurd are
lines-fit width keep_words some (part ∷ parts) [] all plain_all are = absurd are
lines-fit width keep_words some (part ∷ parts) (lines ∷ others) all plain_all are =
    hold_both (Fits width) lines (flat_map (λ ls. ls) others)
    (line-fits width part keep_words lines some (characters-hold-of (λ c. own_width c ≤ width) part all.0) (characters-hold-of IsPlain part plain_all.0) are.0)
    (lines-fit width keep_words some parts others all.1 plain_all.1 are.1)

pub all-lines-fit : (width : ℕ) (keep_words : Bool) (xs : List Styled) (lines : List (List (List Styled))) → 0 < width → AllByRecursion (FitsCharacter width) xs → AllByRecursion IsPlainOrEnds xs
    → AllZip (AreShownLines width keep_words) (slice_split ends_line xs) lines → AllByRecursion (Fits width) (flat_map (λ others. others) lines)
all-lines-fit width keep_words xs lines some all plain_all are =
    lines-fit width keep_words some (slice_split ends_line xs) lines (parts-hold ends_line (FitsCharacter width) (FitsCharacter width) (λ x fits _. fits) xs all)
    (parts-hold ends_line IsPlainOrEnds (λ x. IsPlain x.0) plain-inside xs plain_all) are
