-- What the pass over the bytes of a text knows before each byte, and how a byte changes it.
use Rattle.std.proofs.Common.{◌≡◌, ◌≢◌, ℕ, zero, suc, ◌+◌, ◌-◌, ◌<◌, ◌≤◌, ◌==◌, ◌&&◌, ◌||◌, not, nat_lt, Bool, true, false, List, [], ◌∷◌, ◌++◌, map, length, sum, take, drop, get_or, refl, ap, sym, subst, ◌∙◌, arith, length-append, length-drop}
use Rattle.std.specs.Prelude.{slice_range, IsUtf8}
use Rattle.std.specs.Int.{is_in_range}
use Rattle.std.proofs.lemmas.Str.{IsCharBoundary-start, IsCharBoundary-after_ascii}
use Rattle.std.proofs.lemmas.Bool.Decides.{nat_tests}
use Rattle.std.proofs.lemmas.List.Folds.{list_all-append}
use Rattle.std.proofs.lemmas.List.{drop_more, drop_all, take_all, take_more, get_or-drop}
use Rattle.std.proofs.lemmas.Bool.{and_parts}
use Rattle.ansi_scan.specs.Sequences.{escape, is_not_escape}
use Rattle.memchr.specs.Find.{is_byte3}
use Rattle.ansi_str_search.specs.Text.StyledText.{has_escape}
use Rattle.ansi_str_search.proofs.TextLemmas.LastSequence.{has_escape-drop, has_escape-none}
use Rattle.columns_run.specs.Ends.{is_cell_byte, is_cell_text}
use Rattle.columns_run.specs.Rows.{line_feed, tab, rows_of}
use Rattle.columns_run.specs.Cells.{Line, byte_line}
use Rattle.columns_table.specs.Rows.{split_by_lengths}
use Rattle.columns_table.proofs.SplitByLengths.{sum-more}
use Rattle.grid_records_measure.specs.Measures.{are_printable}
use Rattle.columns_run.specs.Passing.{Clear, Pass, rows_with}
use Rattle.columns_run.proofs.Rows.{rows_from-start, rows_with-tab, rows_with-line_feed, rows_with-other, rows_with-last, rows_with-none}

-- ---- cells

pub cell-empty : (text : List ℕ) (at : ℕ) → slice_range text at at ≡ []
cell-empty text at = let none : at - at ≡ 0 = omega arith in ap (λ n. take n (drop at text)) none

pub cell-more : (text : List ℕ) (start end : ℕ) → start ≤ end → end < length text → slice_range text start end ++ get_or text end 0 ∷ [] ≡ slice_range text start (end + 1)
cell-more text start end ordered below =
    let size : end - start + 1 ≡ end + 1 - start = omega arith in
    let place : start + (end - start) ≡ end = omega arith in
    let inside : end - start < length (drop start text) = omega (arith, length-drop start text) in
    ap (λ b. slice_range text start end ++ b ∷ []) (sym (get_or-drop start text (end - start) 0 ∙ ap (λ at. get_or text at 0) place))
    ∙ sym (take_more (drop start text) (end - start) 0 inside)
    ∙ ap (λ n. take n (drop start text)) size

pub cell-last : (text : List ℕ) (start end : ℕ) → length text ≤ end → slice_range text start end ≡ drop start text
cell-last text start end all = let fits : length (drop start text) ≤ end - start = omega (arith, length-drop start text) in take_all (end - start) (drop start text) fits

pub Pass-start : (text : List ℕ) → IsUtf8 text → Pass text 0 0 0 true [] []
Pass-start text utf8 = record {
  ordered = omega arith;
  boundary = IsCharBoundary-start text utf8;
  printable = λ _. ap are_printable (cell-empty text 0);
  whole = refl;
  rows = rows_from-start byte_line text;
}

-- ---- a byte

pub Pass-tab : (text : List ℕ) (end start count : ℕ) (plain : Bool) (counts : List ℕ) (lines pushed : List (Line)) → IsUtf8 text → end < length text → Pass text end start count plain counts lines
    → get_or text end 0 ≡ tab → pushed ≡ lines ++ byte_line (slice_range text start end) ∷ [] → Pass text (end + 1) (end + 1) (count + 1) true counts pushed
Pass-tab text end start count plain counts lines pushed utf8 below pass same is =
    let cell = slice_range text start end in
    let ascii : get_or text end 0 < 128 = omega arith in
    let fits : sum counts ≤ length lines = omega arith in
    record {
      ordered = omega arith;
      boundary = IsCharBoundary-after_ascii text end utf8 below ascii;
      printable = λ _. ap are_printable (cell-empty text (end + 1));
      whole = omega (arith, ap length is, length-append lines (byte_line cell ∷ []));
      rows =
          ap (λ lines. rows_with byte_line counts lines (slice_range text (end + 1) (end + 1)) (drop (end + 1) text)) is
          ∙ ap (λ bytes. rows_with byte_line counts (lines ++ byte_line cell ∷ []) bytes (drop (end + 1) text)) (cell-empty text (end + 1))
          ∙ rows_with-tab byte_line counts lines cell (get_or text end 0) (drop (end + 1) text) fits same
          ∙ ap (rows_with byte_line counts lines cell) (sym (drop_more text end 0 below))
          ∙ pass.rows;
    }

pub Pass-line_feed : (text : List ℕ) (end start count : ℕ) (plain : Bool) (counts ended : List ℕ) (lines pushed : List (Line)) → IsUtf8 text → end < length text → Pass text end start count plain counts lines
    → get_or text end 0 ≡ line_feed → pushed ≡ lines ++ byte_line (slice_range text start end) ∷ [] → ended ≡ counts ++ (count + 1) ∷ [] → Pass text (end + 1) (end + 1) 0 true ended pushed
Pass-line_feed text end start count plain counts ended lines pushed utf8 below pass same is ends =
    let cell = slice_range text start end in
    let ascii : get_or text end 0 < 128 = omega arith in
    record {
      ordered = omega arith;
      boundary = IsCharBoundary-after_ascii text end utf8 below ascii;
      printable = λ _. ap are_printable (cell-empty text (end + 1));
      whole = omega (arith, ap length is, length-append lines (byte_line cell ∷ []), ap sum ends, sum-more counts (count + 1));
      rows =
          ap (λ lines. rows_with byte_line ended lines (slice_range text (end + 1) (end + 1)) (drop (end + 1) text)) is
          ∙ ap (λ counts. rows_with byte_line counts (lines ++ byte_line cell ∷ []) (slice_range text (end + 1) (end + 1)) (drop (end + 1) text)) ends
          ∙ ap (λ bytes. rows_with byte_line (counts ++ (count + 1) ∷ []) (lines ++ byte_line cell ∷ []) bytes (drop (end + 1) text)) (cell-empty text (end + 1))
          ∙ rows_with-line_feed byte_line counts count lines cell (get_or text end 0) (drop (end + 1) text) pass.whole same
          ∙ ap (rows_with byte_line counts lines cell) (sym (drop_more text end 0 below))
          ∙ pass.rows;
    }

-- a byte within the present cell
Pass-within : (text : List ℕ) (end start count : ℕ) (plain still_plain : Bool) (counts : List ℕ) (lines : List (Line)) → end < length text → Pass text end start count plain counts lines
    → (get_or text end 0 ≡ tab → ⊥) → (get_or text end 0 ≡ line_feed → ⊥) → (still_plain ≡ true → are_printable (slice_range text start end ++ get_or text end 0 ∷ []) ≡ true)
    → Pass text (end + 1) start count still_plain counts lines
Pass-within text end start count plain still_plain counts lines below pass no_tab no_line_feed printable =
    let cell = slice_range text start end in
    let longer = cell-more text start end pass.ordered below in
    record {
      ordered = omega arith;
      boundary = pass.boundary;
      printable = λ h. ap are_printable (sym longer) ∙ printable h;
      whole = pass.whole;
      rows =
          ap (λ bytes. rows_with byte_line counts lines bytes (drop (end + 1) text)) (sym longer)
          ∙ rows_with-other byte_line counts lines cell (get_or text end 0) (drop (end + 1) text) no_tab no_line_feed
          ∙ ap (rows_with byte_line counts lines cell) (sym (drop_more text end 0 below))
          ∙ pass.rows;
    }

above_line_feed : (b : ℕ) → is_in_range 0x20 0x7E b ≡ true → line_feed < b
above_line_feed b h = grind (arith, nat_tests)

pub Pass-printable : (text : List ℕ) (end start count : ℕ) (plain : Bool) (counts : List ℕ) (lines : List (Line)) → end < length text → Pass text end start count plain counts lines
    → is_in_range 0x20 0x7E (get_or text end 0) ≡ true → Pass text (end + 1) start count plain counts lines
Pass-printable text end start count plain counts lines below pass here =
    let cell = slice_range text start end in
    let byte = get_or text end 0 in
    let above : line_feed < byte = above_line_feed byte here in
    Pass-within text end start count plain plain counts lines below pass (λ is_tab. omega arith) (λ is_line_feed. omega arith) (λ h.
    list_all-append (is_in_range 0x20 0x7E) cell (byte ∷ []) ∙ ap (λ b. b && are_printable (byte ∷ [])) (pass.printable h) ∙ ap (λ b. b && true) here)

-- printable bytes of the present cell
pub Pass-printables : (text : List ℕ) (end size start count : ℕ) (plain : Bool) (counts : List ℕ) (lines : List (Line)) → end + size ≤ length text → Pass text end start count plain counts lines
    → ((k : ℕ) → end ≤ k → k < end + size → is_in_range 0x20 0x7E (get_or text k 0) ≡ true) → Pass text (end + size) start count plain counts lines
Pass-printables text end zero start count plain counts lines fits pass each =
    let none : end ≡ end + 0 = omega arith in
    subst (λ n. Pass text n start count plain counts lines) none pass
Pass-printables text end (suc size) start count plain counts lines fits pass each =
    let more : end + 1 + size ≡ end + suc size = omega arith in
    let below : end < length text = omega (arith, fits) in
    subst (λ n. Pass text n start count plain counts lines) more
    (Pass-printables text (end + 1) size start count plain counts lines (omega (arith, fits))
    (Pass-printable text end start count plain counts lines below pass (each end (omega arith) (omega arith)))
    (λ k low high. each k (omega (arith, low)) (omega (arith, high))))

pub Pass-other : (text : List ℕ) (end start count : ℕ) (plain : Bool) (counts : List ℕ) (lines : List (Line)) → end < length text → Pass text end start count plain counts lines
    → (get_or text end 0 ≡ tab → ⊥) → (get_or text end 0 ≡ line_feed → ⊥) → Pass text (end + 1) start count false counts lines
Pass-other text end start count plain counts lines below pass no_tab no_line_feed =
    Pass-within text end start count plain false counts lines below pass no_tab no_line_feed (λ h. cc)

-- bytes of the present cell
cell_text : (b : ℕ) → is_cell_text b ≡ true → (b ≢ escape) × (b ≢ tab) × (b ≢ line_feed)
cell_text b is =
    let parts = and_parts (is_not_escape b) (is_cell_byte b) is in
    let others = and_parts (not (b == tab)) (not (b == line_feed)) parts.1 in
    (λ same. grind (arith, nat_tests), λ same. grind (arith, nat_tests), λ same. grind (arith, nat_tests))

-- a byte that is not looked for
pub not-sought : (b : ℕ) → (is_byte3 tab line_feed escape b ≡ true → ⊥) → is_cell_text b ≡ true
not-sought b other = by (b == tab) (b == line_feed) (b == escape) refl refl refl
  where
    by : (is_tab is_feed is_escape : Bool) → (b == tab) ≡ is_tab → (b == line_feed) ≡ is_feed → (b == escape) ≡ is_escape → is_cell_text b ≡ true
    by true is_feed is_escape e f g = absurd (other (ap (λ t. (t || b == line_feed) || b == escape) e))
    by false true is_escape e f g = absurd (other (ap (λ t. (t || b == line_feed) || b == escape) e ∙ ap (λ t. t || b == escape) f))
    by false false true e f g = absurd (other (ap (λ t. (t || b == line_feed) || b == escape) e ∙ ap (λ t. t || b == escape) f ∙ g))
    by false false false e f g =
        ap (λ t. not t && (not (b == tab) && not (b == line_feed))) g ∙ ap (λ t. not t && not (b == line_feed)) e ∙ ap not f

-- a byte that is looked for
pub sought : (b : ℕ) → is_byte3 tab line_feed escape b ≡ true → is_cell_text b ≡ false
sought b found = by (is_cell_text b) refl
  where
    by : (is : Bool) → is_cell_text b ≡ is → is_cell_text b ≡ false
    by false e = e
    by true e = let others = cell_text b e in absurd (grind (arith, nat_tests))

pub Pass-text : (text : List ℕ) (end size start count : ℕ) (plain : Bool) (counts : List ℕ) (lines : List (Line)) → end + size ≤ length text → Pass text end start count plain counts lines
    → ((k : ℕ) → end ≤ k → k < end + size → is_cell_text (get_or text k 0) ≡ true) → Pass text (end + size) start count false counts lines
Pass-text text end zero start count plain counts lines fits pass each =
    let none : end ≡ end + 0 = omega arith in
    subst (λ n. Pass text n start count false counts lines) none
    (record { ordered = pass.ordered; boundary = pass.boundary; printable = λ h. cc h; whole = pass.whole; rows = pass.rows })
Pass-text text end (suc size) start count plain counts lines fits pass each =
    let more : end + 1 + size ≡ end + suc size = omega arith in
    let here : end < end + suc size = omega arith in
    let below : end < length text = omega (arith, fits) in
    let is = cell_text (get_or text end 0) (each end (omega arith) here) in
    subst (λ n. Pass text n start count false counts lines) more
    (Pass-text text (end + 1) size start count false counts lines (omega (arith, fits))
    (Pass-other text end start count plain counts lines below pass is.1 is.2)
    (λ k low high. each k (omega (arith, low)) (omega (arith, high))))

-- ---- no ESC so far

pub Clear-start : (text : List ℕ) → Clear text 0
Clear-start text = λ k below. absurd (omega (arith, below))

pub Clear-text : (text : List ℕ) (end to : ℕ) → Clear text end → ((k : ℕ) → end ≤ k → k < to → get_or text k 0 ≢ escape) → Clear text to
Clear-text text end to clear each = λ k below. by k below (nat_lt k end) refl
  where
    by : (k : ℕ) → k < to → (before : Bool) → nat_lt k end ≡ before → get_or text k 0 ≢ escape
    by k below true e = clear k (grind (arith, nat_tests))
    by k below false e = let low : end ≤ k = grind (arith, nat_tests) in each k low below

pub Clear-more : (text : List ℕ) (end : ℕ) → Clear text end → get_or text end 0 ≢ escape → Clear text (end + 1)
Clear-more text end clear here = Clear-text text end (end + 1) clear (λ k low below. let same : end ≡ k = omega (arith, low, below) in subst (λ n. get_or text n 0 ≢ escape) same here)

pub Clear-size : (text : List ℕ) (end size : ℕ) → Clear text end → ((k : ℕ) → end ≤ k → k < end + size → is_cell_text (get_or text k 0) ≡ true) → Clear text (end + size)
Clear-size text end size clear each = Clear-text text end (end + size) clear (λ k low below. (cell_text (get_or text k 0) (each k low below)).0)

printable-no_escape : (b : ℕ) → is_in_range 0x20 0x7E b ≡ true → b ≢ escape
printable-no_escape b h = λ same. grind (arith, nat_tests)

pub Clear-printables : (text : List ℕ) (end size : ℕ) → Clear text end → ((k : ℕ) → end ≤ k → k < end + size → is_in_range 0x20 0x7E (get_or text k 0) ≡ true) → Clear text (end + size)
Clear-printables text end size clear each = Clear-text text end (end + size) clear (λ k low below. printable-no_escape (get_or text k 0) (each k low below))

pub Clear-all : (text : List ℕ) (end : ℕ) → length text ≤ end → Clear text end → has_escape text ≡ false
Clear-all text end all clear = has_escape-none text (λ k below. clear k (omega (arith, below, all)))

pub escape-stands : (text : List ℕ) (end : ℕ) → end < length text → get_or text end 0 ≡ escape → ¬ (has_escape text ≡ false)
escape-stands text end below here = λ none.
    let found : has_escape (get_or text end 0 ∷ drop (end + 1) text) ≡ false = ap has_escape (sym (drop_more text end 0 below)) ∙ has_escape-drop end text none in
    let true_is_false : true ≡ false = sym (ap (λ b. (b == escape) || has_escape (drop (end + 1) text)) here) ∙ found in
    cc true_is_false

-- ---- the end

-- the cells of these rows
pub record AreRows (text counts : List ℕ) (lines : List (Line)) : Type 0 where
  pub whole : sum counts ≡ length lines
  pub rows : split_by_lengths counts lines ≡ map (map byte_line) (rows_of (λ b. b) text)

at-end : (text : List ℕ) (end start count : ℕ) (plain : Bool) (counts : List ℕ) (lines : List (Line)) → length text ≤ end → Pass text end start count plain counts lines
    → rows_with byte_line counts lines (drop start text) [] ≡ map (map byte_line) (rows_of (λ b. b) text)
at-end text end start count plain counts lines all pass =
    ap (λ cell. rows_with byte_line counts lines cell []) (sym (cell-last text start end all))
    ∙ ap (rows_with byte_line counts lines (slice_range text start end)) (sym (drop_all end text all))
    ∙ pass.rows

pub Pass-last : (text : List ℕ) (end start count : ℕ) (plain : Bool) (counts ended : List ℕ) (lines pushed : List (Line)) → length text ≤ end → Pass text end start count plain counts lines
    → 0 < count + (length text - start) → pushed ≡ lines ++ byte_line (drop start text) ∷ [] → ended ≡ counts ++ (count + 1) ∷ [] → AreRows text ended pushed
Pass-last text end start count plain counts ended lines pushed all pass some is ends =
    let cell = drop start text in
    let there : 0 < count + length cell = omega (arith, length-drop start text) in
    record {
      whole = omega (arith, ap length is, length-append lines (byte_line cell ∷ []), ap sum ends, sum-more counts (count + 1));
      rows =
          ap (split_by_lengths ended) is
          ∙ ap (λ counts. split_by_lengths counts (lines ++ byte_line cell ∷ [])) ends
          ∙ rows_with-last byte_line counts count lines cell pass.whole there
          ∙ at-end text end start count plain counts lines all pass;
    }

pub Pass-none : (text : List ℕ) (end start count : ℕ) (plain : Bool) (counts : List ℕ) (lines : List (Line)) → length text ≤ end → Pass text end start count plain counts lines
    → count ≤ 0 → length text ≤ start → AreRows text counts lines
Pass-none text end start count plain counts lines all pass no_cells no_bytes =
    let cell = drop start text in
    let none : count + length cell ≡ 0 = omega (arith, length-drop start text) in
    record {
      whole = omega arith;
      rows = rows_with-none byte_line counts count lines cell pass.whole none ∙ at-end text end start count plain counts lines all pass;
    }
