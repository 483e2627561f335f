-- Bytes that show characters of a class, of so many columns by what each of them counts for, and the lines of cells
-- that do.
use Rattle.std.proofs.Common.{◌≡◌, ◌&&◌, ◌+◌, ◌≤◌, ℕ, zero, suc, Bool, true, false, cond, List, [], ◌∷◌, ◌++◌, map, replicate, drop, get_or, refl, ap, sym, subst, ◌∙◌, arith}
use Rattle.std.specs.Prelude.{IsUtf8, chars, encode_utf8, flat_map, slice_index}
use Rattle.std.specs.List.{AllByRecursion, list_all, sum_by}
use Rattle.std.specs.Str.{drop_trailing_whitespace, skip_leading_whitespace, trim}
use Rattle.std.proofs.lemmas.List.Folds.{list_all-append}
use Rattle.std.proofs.lemmas.List.Sums.{sum_by-append, sum_by-cons}
use Rattle.std.proofs.lemmas.Simd.{map-map}
use Rattle.std.proofs.lemmas.Str.{IsUtf8-append, IsUtf8-encode, IsUtf8-nil, chars-append, chars-nil}
use Rattle.ansi_scan.specs.Pieces.{pieces}
use Rattle.ansi_scan.specs.Sequences.{NoneBroken}
use Rattle.ansi_str.specs.Characters.{shown_chars}
use Rattle.ansi_str_search.specs.Text.StyledText.{strip}
use Rattle.ansi_str_search.proofs.TextLemmas.Utf8Pieces.{IsUtf8-shown_text}
use Rattle.grid_records_measure.specs.Measures.{measure}
use Rattle.grid_records_measure.specs.TextLines.{line_measure, shown_lines, text_lines, text_width, widest}
use Rattle.grid_records_measure.specs.Trimming.{trimmed}
use Rattle.grid_records_measure.proofs.TextLines.{text_lines-shown}
use Rattle.papergrid_picture.specs.Blocks.{greatest}
use Rattle.papergrid_picture.specs.CellLines.{cell_lines, cell_measures, kept_lines, those}
use Rattle.papergrid_picture.specs.Shown.{BeginsNoSequence, IsWholeText}
use Rattle.papergrid_picture.proofs.Shown.{All-drop, All-take, IsClosedPart, chars-one, lines-closed_parts, pieces-nothing, those-map}
use Rattle.papergrid_picture.proofs.Stripped.{Leaves-append, Leaves-character, Leaves-trimmed, stripped}
use Rattle.papergrid_picture.proofs.Widths.{IsUtf8-trim, chars-trim, drop-less, shown-trimmed, skip-less, widest-drop, widest-take}

-- ---- a line, trimmed or not

abbrev pub shown_line_of : Bool → List ℕ → List ℕ
shown_line_of trims part = cond trims (trimmed part) part

abbrev measure_of : Bool → List ℕ → ℕ
measure_of trims shown = line_measure (cond trims (trim shown) shown)

measured : (trims : Bool) (part : List ℕ) → IsClosedPart part → measure (shown_chars (shown_line_of trims part)) ≡ measure_of trims (stripped part)
measured true part closed = ap (λ bytes. measure (chars bytes)) (shown-trimmed part closed)
measured false part closed = refl

both-whole : (trims : Bool) (part : List ℕ) → IsClosedPart part → IsUtf8 (stripped (shown_line_of trims part)) × NoneBroken (pieces (shown_line_of trims part))
both-whole true part closed = (
  subst IsUtf8 (sym (shown-trimmed part closed)) (IsUtf8-trim (stripped part) (IsUtf8-shown_text part closed.utf8)),
  (Leaves-trimmed part closed).whole,
)
both-whole false part closed = (IsUtf8-shown_text part closed.utf8, closed.closed.none_broken)

none-shown : shown_chars [] ≡ []
none-shown = ap (λ ps. chars (strip ps)) pieces-nothing ∙ chars-nil

-- ---- what is counted

-- a character of the class that begins no sequence and counts for one
pub record CountsOne (count : ℕ → ℕ) (of_class : ℕ → Bool) (c : ℕ) : Type 0 where
  pub begins : BeginsNoSequence c
  pub one : count c ≡ 1
  pub inside : of_class c ≡ true

-- bytes that show characters of the class, of so many columns, and no ESC of them is broken
pub record Counts (count : ℕ → ℕ) (of_class : ℕ → Bool) (bytes : List ℕ) (columns : ℕ) : Type 0 where
  pub utf8 : IsUtf8 (stripped bytes)
  pub whole : NoneBroken (pieces bytes)
  pub counted : sum_by count (shown_chars bytes) ≡ columns
  pub shown : list_all of_class (shown_chars bytes) ≡ true

-- a line that shows characters of the class, and measures as one text what they count for one by one
pub record LineAdds (count : ℕ → ℕ) (of_class : ℕ → Bool) (line : List ℕ) : Type 0 where
  pub sum : sum_by count (shown_chars line) ≡ measure (shown_chars line)
  pub shown : list_all of_class (shown_chars line) ≡ true

-- a whole text each line of which does, as it is and as it is shown
pub record TextAdds (count : ℕ → ℕ) (of_class : ℕ → Bool) (trims : Bool) (text : List ℕ) : Type 0 where
  pub whole : IsWholeText text
  pub lines : AllByRecursion (λ line. LineAdds count of_class line × LineAdds count of_class (shown_line_of trims line)) (text_lines text)

module _ (count : ℕ → ℕ) (q : ℕ → Bool) where
  -- ---- bytes

  pub Counts-nothing : Counts count q [] 0
  Counts-nothing = record {
    utf8 = subst IsUtf8 (sym (ap strip pieces-nothing)) IsUtf8-nil;
    whole = subst NoneBroken (sym pieces-nothing) tt;
    counted = ap (sum_by count) none-shown;
    shown = ap (list_all q) none-shown;
  }

  pub Counts-append : (a b : List ℕ) (m n : ℕ) → Counts count q a m → Counts count q b n → Counts count q (a ++ b) (m + n)
  Counts-append a b m n first second =
      let both = Leaves-append a b (stripped a) (stripped b) (record { whole = first.whole; left = refl }) (record { whole = second.whole; left = refl }) in
      let characters : shown_chars (a ++ b) ≡ shown_chars a ++ shown_chars b = ap chars both.left ∙ chars-append (stripped a) (stripped b) first.utf8 in
      record {
        utf8 = subst IsUtf8 (sym both.left) (IsUtf8-append (stripped a) (stripped b) first.utf8 second.utf8);
        whole = both.whole;
        counted =
            ap (sum_by count) characters
            ∙ sum_by-append count (shown_chars a) (shown_chars b)
            ∙ ap (λ k. k + sum_by count (shown_chars b)) first.counted
            ∙ ap (λ k. m + k) second.counted;
        shown = ap (list_all q) characters ∙ list_all-append q (shown_chars a) (shown_chars b) ∙ ap (λ all. all && list_all q (shown_chars b)) first.shown ∙ second.shown;
      }

  Counts-character : (c : ℕ) → CountsOne count q c → Counts count q (encode_utf8 c) 1
  Counts-character c is =
      let left = Leaves-character c is.begins in
      let characters : shown_chars (encode_utf8 c) ≡ c ∷ [] = ap chars left.left ∙ chars-one c is.begins.scalar in
      record {
        utf8 = subst IsUtf8 (sym left.left) (IsUtf8-encode c is.begins.scalar);
        whole = left.whole;
        counted = ap (sum_by count) characters ∙ sum_by-cons count c [] ∙ ap (λ n. n + 0) is.one;
        shown = ap (list_all q) characters ∙ ap (λ b. b && true) is.inside;
      }

  pub Counts-fill : (n c : ℕ) → CountsOne count q c → Counts count q (flat_map encode_utf8 (replicate n c)) n
  Counts-fill zero c is = Counts-nothing
  Counts-fill (suc n) c is =
      let more : 1 + n ≡ suc n = omega arith in
      subst (Counts count q (encode_utf8 c ++ flat_map encode_utf8 (replicate n c))) more
      (Counts-append (encode_utf8 c) (flat_map encode_utf8 (replicate n c)) 1 n (Counts-character c is) (Counts-fill n c is))

  -- ---- a line

  abbrev AddsTrimmed : Bool → List ℕ → Type 0
  AddsTrimmed trims line = LineAdds count q line × LineAdds count q (shown_line_of trims line)

  line-counts : (trims : Bool) (part : List ℕ) → IsClosedPart part → LineAdds count q (shown_line_of trims part) → Counts count q (shown_line_of trims part) (measure_of trims (stripped part))
  line-counts trims part closed adds =
      let whole = both-whole trims part closed in
      record { utf8 = whole.0; whole = whole.1; counted = adds.sum ∙ measured trims part closed; shown = adds.shown }

  -- it measures no more once it is trimmed
  trims-to_less : (trims : Bool) (part : List ℕ) → IsClosedPart part → AddsTrimmed trims part → measure_of trims (stripped part) ≤ line_measure (stripped part)
  trims-to_less false part closed adds = omega arith
  trims-to_less true part closed adds =
      let cs = shown_chars part in
      let left : chars (trim (stripped part)) ≡ drop_trailing_whitespace (skip_leading_whitespace cs) = chars-trim (stripped part) (IsUtf8-shown_text part closed.utf8) in
      let trimmed_sum : measure_of true (stripped part) ≡ sum_by count (drop_trailing_whitespace (skip_leading_whitespace cs)) =
      sym (measured true part closed) ∙ sym adds.1.sum ∙ ap (λ bytes. sum_by count (chars bytes)) (shown-trimmed part closed) ∙ ap (sum_by count) left in
      let whole_sum : line_measure (stripped part) ≡ sum_by count cs = sym adds.0.sum in
      omega (arith, trimmed_sum, whole_sum, drop-less count (skip_leading_whitespace cs), skip-less count cs)

  -- ---- the lines of a text

  module _ (text : List ℕ) (trims trim_vertical : Bool) (adds : TextAdds count q trims text) where
    abbrev kept : ℕ × ℕ
    kept = kept_lines trim_vertical (shown_lines (pieces text))

    abbrev parts : List (List ℕ)
    parts = those kept (text_lines text)

    abbrev IsGood : List ℕ → Type 0
    IsGood part = IsClosedPart part × AddsTrimmed trims part

    both-good : (ps : List (List ℕ)) → AllByRecursion IsClosedPart ps → AllByRecursion (AddsTrimmed trims) ps → AllByRecursion IsGood ps
    both-good [] closed all = tt
    both-good (part ∷ ps) closed all = ((closed.0, all.0), both-good ps closed.1 all.1)

    parts-good : AllByRecursion IsGood parts
    parts-good =
        All-take IsGood kept.1 (drop kept.0 (text_lines text)) (All-drop IsGood kept.0 (text_lines text) (both-good (text_lines text) (lines-closed_parts text adds.whole) adds.lines))

    measures-are : cell_measures trims trim_vertical text ≡ map (λ part. measure_of trims (stripped part)) parts
    measures-are =
        ap (λ shown. map (measure_of trims) (those kept shown)) (sym (text_lines-shown text adds.whole.whole))
        ∙ ap (map (measure_of trims)) (those-map stripped kept (text_lines text))
        ∙ map-map (measure_of trims) stripped parts

    each-counts : (ps : List (List ℕ)) → AllByRecursion IsGood ps → (k : ℕ) → Counts count q (get_or (map (shown_line_of trims) ps) k []) (get_or (map (λ part. measure_of trims (stripped part)) ps) k 0)
    each-counts [] all k = Counts-nothing
    each-counts (part ∷ ps) all zero = line-counts trims part all.0.0 all.0.1.1
    each-counts (part ∷ ps) all (suc k) = each-counts ps all.1 k

    pub cell_line-counts : (k : ℕ) → Counts count q (get_or (cell_lines trims trim_vertical text) k []) (slice_index (cell_measures trims trim_vertical text) k)
    cell_line-counts k =
        subst (λ (ms : List ℕ). Counts count q (get_or (cell_lines trims trim_vertical text) k []) (get_or ms k 0)) (sym measures-are) (each-counts parts parts-good k)

    -- ---- and none is wider than the text

    among : (ps : List (List ℕ)) → AllByRecursion IsGood ps → greatest (map (λ part. measure_of trims (stripped part)) ps) ≤ widest (map stripped ps)
    among [] all = omega arith
    among (part ∷ ps) all = omega (arith, trims-to_less trims part all.0.0 all.0.1, among ps all.1)

    pub cell-within : greatest (cell_measures trims trim_vertical text) ≤ text_width text
    unfolding text_width
    cell-within =
        let lines = shown_lines (pieces text) in
        let shown : map stripped parts ≡ those kept lines = sym (those-map stripped kept (text_lines text)) ∙ ap (those kept) (text_lines-shown text adds.whole.whole) in
        let wide : widest (map stripped parts) ≤ widest lines =
        subst (λ (ls : List (List ℕ)). widest ls ≤ widest lines) (sym shown) (omega (arith, widest-take kept.1 (drop kept.0 lines), widest-drop kept.0 lines)) in
        let same = ap greatest measures-are in
        omega (arith, same, among parts parts-good, wide)
