-- What the lines show that a line of a whole text is wrapped into.
use Rattle.std.proofs.Common.{◌≡◌, ◌≤◌, ◌==◌, ℕ, ◌+◌, ◌-◌, Bool, true, false, cond, nat_lt, List, [], ◌∷◌, ◌++◌, length, take, drop, flat_map, slice_range, if◌then◌else◌, refl, ap, sym, subst, ◌∙◌, arith, append_assoc, append-nil, length-append}
use Rattle.std.specs.Prelude.{chars, encode_utf8_all}
use Rattle.std.specs.List.{AllZip, prefix_len, repeat, sum_by}
use Rattle.std.specs.Str.{IsUtf8, IsCharBoundary}
use Rattle.std.proofs.Math.Utf8.{scalars}
use Rattle.std.proofs.Math.Seq.{take-add, take-append_seam, drop-append_seam}
use Rattle.std.proofs.lemmas.Bool.Decides.{nat_tests}
use Rattle.std.proofs.lemmas.Grind.{flat_map-append}
use Rattle.std.proofs.lemmas.List.{drop-drop, length-drop, length-take-le, take-append-drop}
use Rattle.std.proofs.lemmas.List.Sums.{sum_by-cons}
use Rattle.std.proofs.lemmas.Str.{chars-encodes, encodes-append, encodes-chars, length-le-encodes, scalars-chars, IsCharBoundary-at_seam}
use Rattle.ansi_scan.specs.Sequences.{Piece, ArePiecesOf, NoneBroken}
use Rattle.ansi_scan.specs.Joining.{is_text_kind}
use Rattle.ansi_scan.specs.Pieces.{pieces}
use Rattle.ansi_scan.specs.Attributes.{plain_attributes}
use Rattle.ansi_scan.proofs.Existence.{ArePiecesOf-pieces}
use Rattle.ansi_scan.proofs.Kept.{IsRendition-plain}
use Rattle.ansi_str.specs.StyledText.{strip, style_after_all, styled}
use Rattle.ansi_str.specs.Parts.{from_place, through_place}
use Rattle.ansi_str.specs.Walking.{from_text}
use Rattle.ansi_str.specs.Cuts.{cut_part, later_part}
use Rattle.ansi_str_search.proofs.Dressed.{EachStands-through, NoneBroken-through, IsRendition-after}
use Rattle.ansi_str_search.proofs.PiecesAtPlaces.{strip-from}
use Rattle.ansi_str_search.proofs.Slices.{strip-through}
use Rattle.ansi_str_search.proofs.Utf8.{EachUtf8, EachUtf8-pieces, EachUtf8-from, EachUtf8-through, IsUtf8-dressed, IsUtf8-strip, boundary-from}
use Rattle.ansi_str.proofs.SplitSteps.{strip-from_text}
use Rattle.ansi_str.proofs.CutParts.{first_part-slice, later_part-slice}
use Rattle.ansi_str.proofs.CutSlices.{cut-slice, later_part-slice_shown}
use Rattle.ansi_str.proofs.WholeCuts.{dressed-strip, first_part-closed, later_part-closed, later_part-strip}
use Rattle.grid_records_measure.specs.Cutting.{replacement}
use Rattle.grid_records_measure.proofs.Cuts.{scalars-behind}
use Rattle.grid_records_measure.proofs.ShownCuts.{scalars-before}
use Rattle.tabled_size_wrap.specs.Units.{LineUnit, line_units, unit_len}
use Rattle.tabled_size_wrap.specs.FittingRuns.{AreRunsOf, run_cost}
use Rattle.tabled_size_wrap.specs.Wrapping.{run_len, unit_fits, before_wide, from_wide, line_part, replacement_bytes, shown_run, lines_of_runs}
use Rattle.tabled_size_wrap.specs.Showing.{Styled, in_plain, unit_size}
use Rattle.tabled_size_wrap.proofs.Standing.{by-part}
use Rattle.tabled_size_wrap.proofs.AllUnits.{texts, texts-units}
use Rattle.tabled_size_wrap.proofs.Fewest.{are-fitting_runs}
use Rattle.tabled_size_wrap.proofs.Shows.{feeds, feeds-take, feeds-drop, ShowsLine, ShowsLine-nothing, ShowsLine-both, replacements-line}

EachUtf8-from_text : (ps : List Piece) → EachUtf8 ps → EachUtf8 (from_text ps)
EachUtf8-from_text [] each = tt
EachUtf8-from_text (p ∷ ps) each = by (is_text_kind p.kind) refl (EachUtf8-from_text ps each.1)
  where
    by : (text : Bool) → is_text_kind p.kind ≡ text → EachUtf8 (from_text ps) → EachUtf8 (from_text (p ∷ ps))
    by true e others = subst EachUtf8 (ap (λ t. if t then p ∷ ps else from_text ps) (sym e)) each
    by false e others = subst EachUtf8 (ap (λ t. if t then p ∷ ps else from_text ps) (sym e)) others

-- ---- how long units are

abbrev pub run_size : List LineUnit → ℕ
run_size run = sum_by unit_size run

pub size-texts : (us : List LineUnit) → run_size us ≡ length (texts us)
size-texts [] = refl
size-texts (u ∷ us) = sum_by-cons unit_size u us ∙ ap (λ n. length u.text + n) (size-texts us) ∙ sym (length-append u.text (texts us))

len-texts : (us : List LineUnit) → run_len us ≡ length (encode_utf8_all (texts us))
len-texts [] = refl
len-texts (u ∷ us) =
    sum_by-cons unit_len u us ∙ ap (λ n. unit_len u + n) (len-texts us) ∙ sym (length-append (encode_utf8_all u.text) (encode_utf8_all (texts us)))
    ∙ ap length (sym (encodes-append u.text (texts us)))

pub texts-both : (us vs : List LineUnit) → texts (us ++ vs) ≡ texts us ++ texts vs
texts-both us vs = flat_map-append (λ (u : LineUnit). u.text) us vs

module _ (text : List ℕ) (ps : List Piece) (utf8 : IsUtf8 text) (of_text : ArePiecesOf text ps) (whole : NoneBroken ps) (one_line : feeds (strip ps) ≡ false) where
  abbrev cs : List ℕ
  cs = chars (strip ps)

  abbrev xs : List Styled
  xs = styled ps

  -- where a character begins
  abbrev byte_place : ℕ → ℕ
  byte_place n = length (encode_utf8_all (take n cs))

  each : EachUtf8 ps
  each = EachUtf8-pieces ps of_text.stand (subst IsUtf8 (sym of_text.joins) utf8)

  shown-utf8 : IsUtf8 (strip ps)
  shown-utf8 = IsUtf8-strip ps each

  spelled : (n : ℕ) → strip ps ≡ encode_utf8_all (take n cs) ++ encode_utf8_all (drop n cs)
  spelled n = sym (encodes-chars (strip ps) shown-utf8) ∙ ap encode_utf8_all (sym (take-append-drop n cs)) ∙ encodes-append (take n cs) (drop n cs)

  all-scalars : (n : ℕ) → scalars (take n cs ++ drop n cs) ≡ true
  all-scalars n = ap scalars (take-append-drop n cs) ∙ scalars-chars (strip ps) shown-utf8

  boundary : (n : ℕ) → IsCharBoundary (strip ps) (byte_place n)
  boundary n = IsCharBoundary-at_seam (strip ps) (encode_utf8_all (take n cs)) (encode_utf8_all (drop n cs)) (spelled n) (drop n cs, (scalars-behind (take n cs) (drop n cs) (all-scalars n), refl))

  count : (n : ℕ) → n ≤ length cs → length (chars (take (byte_place n) (strip ps))) ≡ n
  count n fits =
      ap (λ bytes. length (chars (take (byte_place n) bytes))) (spelled n)
      ∙ ap (λ bytes. length (chars bytes)) (take-append_seam (encode_utf8_all (take n cs)) (encode_utf8_all (drop n cs)))
      ∙ ap length (chars-encodes (take n cs) (scalars-before (take n cs) (drop n cs) (all-scalars n)))
      ∙ length-take-le n cs fits

  place-more : (i n : ℕ) → byte_place (i + n) ≡ byte_place i + length (encode_utf8_all (take n (drop i cs)))
  place-more i n =
      ap (λ bytes. length (encode_utf8_all bytes)) (take-add i n cs) ∙ ap length (encodes-append (take i cs) (take n (drop i cs)))
      ∙ length-append (encode_utf8_all (take i cs)) (encode_utf8_all (take n (drop i cs)))

  -- characters take a byte at least
  place-far : (i j : ℕ) → i ≤ j → j ≤ length cs → byte_place i + (j - i) ≤ byte_place j
  place-far i j order fits =
      let n = j - i in
      let sum : i + n ≡ j = omega arith in
      let left : length (drop i cs) ≡ length cs - i = length-drop i cs in
      let room : n ≤ length (drop i cs) = omega (arith, left) in
      let size : length (take n (drop i cs)) ≡ n = length-take-le n (drop i cs) room in
      let more = place-more i n in
      let bytes = length-le-encodes (take n (drop i cs)) in
      let same : byte_place (i + n) ≡ byte_place j = ap byte_place sum in
      omega (arith, more, bytes, size, same)

  -- ---- a part

  module _ (i j : ℕ) (order : i ≤ j) (fits : j ≤ length cs) where
    abbrev a : ℕ
    a = byte_place i

    abbrev b : ℕ
    b = byte_place j

    start-fits : i ≤ length cs
    start-fits = omega (arith, order, fits)

    far : a + (j - i) ≤ b
    far = place-far i j order fits

    forward : a ≤ b
    forward = omega (arith, far)

    slice-same : slice_range xs (length (chars (take a (strip ps)))) (length (chars (take b (strip ps)))) ≡ slice_range xs i j
    slice-same = ap (λ n. slice_range xs n (length (chars (take b (strip ps))))) (count i start-fits) ∙ ap (slice_range xs i) (count j fits)

    -- no bytes
    part-empty : a ≡ b → ShowsLine [] (slice_range xs i j)
    part-empty same =
        let none : 0 ≡ j - i = omega (arith, far, same) in
        subst (λ n. ShowsLine [] (take n (drop i xs))) none ShowsLine-nothing

    -- at the start of the line
    part-first : a ≡ 0 → ShowsLine (cut_part 0 b ps) (slice_range xs i j)
    part-first zero-place =
        let slice = through_place b ps in
        let found = pieces (cut_part 0 b ps) in
        let of_part = ArePiecesOf-pieces (cut_part 0 b ps) in
        let of_part_there = subst (λ n. ArePiecesOf (cut_part n b ps) found) (sym zero-place) of_part in
        record {
          shows = record {
            pieces = found;
            of_bytes = of_part;
            closed = first_part-closed text ps of_text whole b found of_part;
            utf8 = subst IsUtf8 (sym (first_part-slice b ps)) (IsUtf8-dressed plain_attributes slice IsRendition-plain (EachUtf8-through b ps each (boundary j)));
            shown = cut-slice text ps found a b forward utf8 of_text whole (boundary i) (boundary j) of_part_there ∙ slice-same;
          };
          one_line =
              ap feeds
              (dressed-strip (cut_part 0 b ps) plain_attributes slice found (first_part-slice b ps) IsRendition-plain (EachStands-through b ps of_text.stand whole) (NoneBroken-through b ps whole) of_part
              ∙ strip-through b ps)
              ∙ feeds-take b (strip ps) one_line;
        }

    -- after it
    part-later : ShowsLine (later_part a b ps) (slice_range xs i j)
    part-later =
        let known = style_after_all plain_attributes (through_place a ps) in
        let left = from_text (from_place a ps) in
        let left-strip : strip left ≡ drop a (strip ps) = strip-from_text (from_place a ps) ∙ strip-from a ps in
        let left-each : EachUtf8 left = EachUtf8-from_text (from_place a ps) (EachUtf8-from a ps each (boundary i)) in
        let end : IsCharBoundary (strip left) (b - a) = subst (λ bytes. IsCharBoundary bytes (b - a)) (sym left-strip) (boundary-from (strip ps) a b forward (boundary j)) in
        let found = pieces (later_part a b ps) in
        let of_part = ArePiecesOf-pieces (later_part a b ps) in
        record {
          shows = record {
            pieces = found;
            of_bytes = of_part;
            closed = later_part-closed text ps of_text whole a b forward found of_part;
            utf8 = subst IsUtf8 (sym (later_part-slice a b ps forward of_text.stand))
                (IsUtf8-dressed known (through_place (b - a) left) (IsRendition-after plain_attributes (through_place a ps) IsRendition-plain) (EachUtf8-through (b - a) left left-each end));
            shown = later_part-slice_shown text ps found a b forward utf8 of_text whole (boundary i) (boundary j) of_part ∙ slice-same;
          };
          one_line = ap feeds (later_part-strip text ps of_text whole a b forward found of_part) ∙ feeds-take (b - a) (drop a (strip ps)) (feeds-drop a (strip ps) one_line);
        }

    part-line : ShowsLine (line_part ps a b) (slice_range xs i j)
    part-line = by (a == b) (nat_lt 0 (length (strip ps))) (a == 0) refl refl refl
      where
        whole-case : (first : Bool) → (a == 0) ≡ first → ShowsLine (cond first (cut_part 0 b ps) (later_part a b ps)) (slice_range xs i j)
        whole-case true e = part-first (grind (arith, nat_tests))
        whole-case false e = part-later

        by : (same some first : Bool) → (a == b) ≡ same → nat_lt 0 (length (strip ps)) ≡ some → (a == 0) ≡ first → ShowsLine (line_part ps a b) (slice_range xs i j)
        by true true first e f g =
            subst (λ bytes. ShowsLine bytes (slice_range xs i j))
            (sym (by-part a b ps true first true e g ∙ ap (λ t. cond t [] (cond first (cut_part 0 b ps) (later_part a b ps))) f))
            (part-empty (grind (arith, nat_tests)))
        by true false first e f g =
            subst (λ bytes. ShowsLine bytes (slice_range xs i j))
            (sym (by-part a b ps true first false e g ∙ ap (λ t. cond t [] (cond first (cut_part 0 b ps) (later_part a b ps))) f))
            (whole-case first g)
        by false some first e f g = subst (λ bytes. ShowsLine bytes (slice_range xs i j)) (sym (by-part a b ps false first some e g)) (whole-case first g)

  -- ---- after some characters

  module _ (i : ℕ) (first rest : List ℕ) (fits : i ≤ length cs) (are : drop i cs ≡ first ++ rest) where
    next-fits : i + length first ≤ length cs
    next-fits = omega (arith, fits, ap length are, length-append first rest, length-drop i cs)

    next-rest : drop (i + length first) cs ≡ rest
    next-rest = sym (drop-drop (length first) i cs) ∙ ap (drop (length first)) are ∙ drop-append_seam first rest

    next-place : byte_place (i + length first) ≡ byte_place i + length (encode_utf8_all first)
    next-place = place-more i (length first) ∙ ap (λ taken. byte_place i + length (encode_utf8_all taken)) (ap (take (length first)) are ∙ take-append_seam first rest)

  module _ (i : ℕ) (us : List LineUnit) (rest : List ℕ) (fits : i ≤ length cs) (are : drop i cs ≡ texts us ++ rest) where
    units-fits : i + run_size us ≤ length cs
    units-fits = subst (λ n. i + n ≤ length cs) (sym (size-texts us)) (next-fits i (texts us) rest fits are)

    units-rest : drop (i + run_size us) cs ≡ rest
    units-rest = ap (λ n. drop (i + n) cs) (size-texts us) ∙ next-rest i (texts us) rest fits are

    units-place : byte_place (i + run_size us) ≡ byte_place i + run_len us
    units-place = ap (λ n. byte_place (i + n)) (size-texts us) ∙ next-place i (texts us) rest fits are ∙ ap (λ n. byte_place i + n) (sym (len-texts us))

  -- ---- a run

  abbrev shows_bytes : ℕ → ℕ → List LineUnit → List LineUnit → List ℕ
  shows_bytes width place front from = shown_run unit_len (line_part ps) replacement_bytes width place front from

  abbrev shows_characters : ℕ → ℕ → List LineUnit → List LineUnit → List Styled
  shows_characters width place front from = shown_run unit_size (slice_range xs) (in_plain replacement ∷ []) width place front from

  run-line : (width i : ℕ) (front from : List LineUnit) (rest : List ℕ) → i ≤ length cs → drop i cs ≡ texts (front ++ from) ++ rest
      → ShowsLine (shows_bytes width (byte_place i) front from) (shows_characters width i front from)
  run-line width i front [] rest fits are =
      let here : drop i cs ≡ texts front ++ rest = are ∙ ap (λ (us : List LineUnit). texts us ++ rest) (append-nil front) in
      subst (λ b. ShowsLine (line_part ps (byte_place i) b) (slice_range xs i (i + run_size front))) (units-place i front rest fits here)
      (part-line i (i + run_size front) (omega arith) (units-fits i front rest fits here))
  run-line width i front (wide ∷ behind) rest fits are =
      let here : drop i cs ≡ texts front ++ (texts (wide ∷ behind) ++ rest) =
      are ∙ ap (λ (t : List ℕ). t ++ rest) (texts-both front (wide ∷ behind)) ∙ append_assoc (texts front) (texts (wide ∷ behind)) rest in
      let from = i + run_size front in
      let from-fits = units-fits i front (texts (wide ∷ behind) ++ rest) fits here in
      let from-place = units-place i front (texts (wide ∷ behind) ++ rest) fits here in
      let at-wide : drop from cs ≡ wide.text ++ (texts behind ++ rest) = units-rest i front (texts (wide ∷ behind) ++ rest) fits here ∙ append_assoc wide.text (texts behind) rest in
      let to = from + unit_size wide in
      let to-fits = next-fits from wide.text (texts behind ++ rest) from-fits at-wide in
      let to-place = next-place from wide.text (texts behind ++ rest) from-fits at-wide in
      let at-behind = next-rest from wide.text (texts behind ++ rest) from-fits at-wide in
      let end-place = units-place to behind rest to-fits at-behind in
      let to-there : byte_place to ≡ byte_place i + run_len front + unit_len wide = to-place ∙ ap (λ n. n + unit_len wide) from-place in
      let first = subst (λ b. ShowsLine (line_part ps (byte_place i) b) (slice_range xs i from)) from-place (part-line i from (omega arith) from-fits) in
      let last = subst (λ n. ShowsLine (line_part ps n (n + run_len behind)) (slice_range xs to (to + run_size behind))) to-there
      (subst (λ b. ShowsLine (line_part ps (byte_place to) b) (slice_range xs to (to + run_size behind))) end-place
      (part-line to (to + run_size behind) (omega arith) (units-fits to behind rest to-fits at-behind))) in
      let marks = width - run_cost front in
      ShowsLine-both (line_part ps (byte_place i) (byte_place i + run_len front)) (repeat marks replacement_bytes ++ line_part ps (byte_place i + run_len front + unit_len wide) (byte_place i + run_len front + unit_len wide + run_len behind))
      (slice_range xs i from) (repeat marks (in_plain replacement ∷ []) ++ slice_range xs to (to + run_size behind)) first
      (ShowsLine-both (repeat marks replacement_bytes) (line_part ps (byte_place i + run_len front + unit_len wide) (byte_place i + run_len front + unit_len wide + run_len behind))
      (repeat marks (in_plain replacement ∷ [])) (slice_range xs to (to + run_size behind)) (replacements-line marks) last)

  -- ---- all runs

  runs-lines : (width : ℕ) (runs : List (List LineUnit)) (i : ℕ) (rest : List ℕ) → i ≤ length cs → drop i cs ≡ texts (flat_map (λ run. run) runs) ++ rest
      → AllZip ShowsLine (lines_of_runs unit_len (line_part ps) replacement_bytes width (byte_place i) runs) (lines_of_runs unit_size (slice_range xs) (in_plain replacement ∷ []) width i runs)
  runs-lines width [] i rest fits are = tt
  runs-lines width (run ∷ runs) i rest fits are =
      let others = flat_map (λ r. r) runs in
      let here : drop i cs ≡ texts run ++ (texts others ++ rest) = are ∙ ap (λ (t : List ℕ). t ++ rest) (texts-both run others) ∙ append_assoc (texts run) (texts others) rest in
      let parted : drop i cs ≡ texts (before_wide width run ++ from_wide width run) ++ (texts others ++ rest) =
      here ∙ ap (λ (us : List LineUnit). texts us ++ (texts others ++ rest)) (sym (take-append-drop (prefix_len (unit_fits width) run) run)) in
      let line = run-line width i (before_wide width run) (from_wide width run) (texts others ++ rest) fits parted in
      let behind = runs-lines width runs (i + run_size run) rest (units-fits i run (texts others ++ rest) fits here) (units-rest i run (texts others ++ rest) fits here) in
      let place = units-place i run (texts others ++ rest) fits here in
      (line, subst (λ n. AllZip ShowsLine (lines_of_runs unit_len (line_part ps) replacement_bytes width n runs) (lines_of_runs unit_size (slice_range xs) (in_plain replacement ∷ []) width (i + run_size run) runs)) place behind)

  -- the lines that the line is wrapped into show what its runs show
  pub wrapped_line-shows : (width : ℕ) (keep_words : Bool) (runs : List (List LineUnit)) → AreRunsOf width (line_units width keep_words cs) runs
      → AllZip ShowsLine (lines_of_runs unit_len (line_part ps) replacement_bytes width 0 runs) (lines_of_runs unit_size (slice_range xs) (in_plain replacement ∷ []) width 0 runs)
  wrapped_line-shows width keep_words runs are =
      let joined = (are-fitting_runs width (line_units width keep_words cs) runs are).joined in
      let all : cs ≡ texts (flat_map (λ run. run) runs) ++ [] = sym (append-nil (texts (flat_map (λ run. run) runs)) ∙ ap texts joined ∙ texts-units width keep_words cs) in
      runs-lines width runs 0 [] (omega arith) all
