-- The ends of cells of printable ASCII, read off a bit for each of sixty-four bytes.
use Rattle.std.proofs.Common.{◌≡◌, ◌≢◌, ℕ, ◌+◌, ◌-◌, ◌*◌, ◌%◌, ◌^◌, ◌<◌, ◌≤◌, max, Bool, true, List, drop, get_or, length, length-drop, refl, ap, sym, subst, ◌∙◌, arith, w64, ⊎_elim}
use Rattle.std.specs.Prelude.{chars, slice_range, IsUtf8}
use Rattle.std.specs.Int.{bit_at, bit_not, is_in_range, trailing_zeros}
use Rattle.std.specs.Int.RustNames.{bit_and}
use Rattle.std.specs.Simd.Lanes.{chunk}
use Rattle.std.proofs.lemmas.Bool.{cases_lt}
use Rattle.std.proofs.lemmas.Nat.Bits.{bit_at-trailing_zeros, bit_at-zero, bit_at_clear_other, bit_at_clear_same}
use Rattle.std.proofs.lemmas.List.{length-take}
use Rattle.std.proofs.lemmas.Simd.{get_or-chunk}
use Rattle.grid_records_measure.specs.Measures.{measure}
use Rattle.grid_records_measure.proofs.PrintableWidth.{measure-printable}
use Rattle.columns_table.specs.RowEnds.{EndedRows, row_ended, with_cell}
use Rattle.columns_run.specs.Passing.{Before, Clear, HasPassed, Pass, lines}
use Rattle.columns_run.specs.Rows.{line_feed, tab}
use Rattle.columns_run.proofs.Begun.{Before-line_feed, Before-tab, cell_with}
use Rattle.columns_run.proofs.Passes.{Clear-more, Clear-printables, Pass-printables}

-- the bytes of the text from `start` on are printable up to `to`
abbrev pub ArePrintable : List ℕ → ℕ → ℕ → Type 0
ArePrintable text start to = (k : ℕ) → start ≤ k → k < start + (to - start) → is_in_range 0x20 0x7E (get_or text k 0) ≡ true

-- after printable bytes
pub Before-printables : (text : List ℕ) (end to start : ℕ) (plain : Bool) (rows : EndedRows) → Before text end start plain rows → end ≤ to → to ≤ length text → ArePrintable text end to → Before text to start plain rows
Before-printables text end to start plain rows before low high each =
    let size : end + (to - end) ≡ to = omega (arith, low) in
    record {
      fit = before.fit;
      begins = before.begins;
      pass = subst (λ n. Pass text n start rows.begun plain rows.counts (lines text rows.ends)) size
          (Pass-printables text end (to - end) start rows.begun plain rows.counts (lines text rows.ends) (omega (arith, size, high)) before.pass each);
    }

pub Clear-to : (text : List ℕ) (end to : ℕ) → Clear text end → end ≤ to → ArePrintable text end to → Clear text to
Clear-to text end to clear low each = let size : end + (to - end) ≡ to = omega (arith, low) in subst (λ n. Clear text n) size (Clear-printables text end (to - end) clear each)

pub passed-printables : (text : List ℕ) (start end to : ℕ) (rows : EndedRows) → HasPassed text start end rows → end ≤ to → to ≤ length text → ArePrintable text end to → HasPassed text start to rows
passed-printables text start end to rows passed low high each = record {
  within = high;
  before = Before-printables text end to start true rows passed.before low high each;
  clear = Clear-to text end to passed.clear low each;
}

-- so many columns the cell takes
pub passed-width : (text : List ℕ) (start end : ℕ) (rows : EndedRows) → HasPassed text start end rows → start ≤ end → end - start ≡ measure (chars (slice_range text start end))
passed-width text start end rows passed low =
    let within = passed.within in
    let size : length (slice_range text start end) ≡ end - start = omega (arith, within, low, length-take (end - start) (drop start text), length-drop start text) in
    sym (measure-printable (slice_range text start end) (passed.before.pass.printable refl) ∙ size)

-- after a cell that a tab ends
pub passed-tab : (text : List ℕ) (start end : ℕ) (rows : EndedRows) → HasPassed text start end rows → IsUtf8 text → end < length text → get_or text end 0 ≡ tab
    → HasPassed text (end + 1) (end + 1) (with_cell rows (cell_with end (slice_range text start end)))
passed-tab text start end rows passed utf8 below is = record {
  within = omega (arith, below);
  before = Before-tab text end start true rows passed.before utf8 below is;
  clear = Clear-more text end passed.clear (λ other. omega (arith, is, other));
}

-- after one that a line feed ends
pub passed-line_feed : (text : List ℕ) (start end : ℕ) (rows : EndedRows) → HasPassed text start end rows → IsUtf8 text → end < length text → get_or text end 0 ≡ line_feed
    → HasPassed text (end + 1) (end + 1) (row_ended (with_cell rows (cell_with end (slice_range text start end))))
passed-line_feed text start end rows passed utf8 below is = record {
  within = omega (arith, below);
  before = Before-line_feed text end start true rows passed.before utf8 below is;
  clear = Clear-more text end passed.clear (λ other. omega (arith, is, other));
}

-- ---- sixty-four bytes from `at` on, of which those that are printable have no bit, nor those before `start`
pub record HasOthers (text : List ℕ) (at start others : ℕ) : Type 0 where
  pub printable : (k : ℕ) → k < 64 → start ≤ at + k → bit_at others k ≡ 0 → is_in_range 0x20 0x7E (get_or text (at + k) 0) ≡ true
  pub none_before : (k : ℕ) → k < 64 → at + k < start → bit_at others k ≡ 0

pub others-first : (text : List ℕ) (at start others : ℕ) → start ≤ at
    → ((k : ℕ) → k < 64 → bit_at others k ≡ 0 → is_in_range 0x20 0x7E (get_or (chunk at 64 text) k 0) ≡ true) → HasOthers text at start others
others-first text at start others low each = record {
  printable = λ k below _ none. subst (λ b. is_in_range 0x20 0x7E b ≡ true) (get_or-chunk at 64 text k 0 below) (each k below none);
  none_before = λ k below before. absurd (omega (arith, low, before));
}

-- up to a place after which no bit is set
lanes-printable : (text : List ℕ) (at start others size : ℕ) → HasOthers text at start others → size ≤ 64 → ((k : ℕ) → k < size → bit_at others k ≡ 0) → ArePrintable text (max at start) (at + size)
lanes-printable text at start others size has most none k low below =
    let place : at + (k - at) ≡ k = omega (arith, low) in
    let lane : k - at < size = omega (arith, low, below) in
    subst (λ n. is_in_range 0x20 0x7E (get_or text n 0) ≡ true) place
    (has.printable (k - at) (omega (arith, lane, most)) (omega (arith, low, place)) (none (k - at) lane))

module _ (text : List ℕ) (at start others : ℕ) (rows : EndedRows) (has : HasOthers text at start others) (passed : HasPassed text start (max at start) rows) where
  -- where no bit is left
  pub others-none : others ≡ 0 → start ≤ at + 64 → at + 64 ≤ length text → HasPassed text start (at + 64) rows
  others-none zero most room =
      passed-printables text start (max at start) (at + 64) rows passed (omega (arith, most)) room
      (lanes-printable text at start others 64 has (omega arith) (λ k below. ap (λ m. bit_at m k) zero ∙ bit_at-zero k))

  module _ (some : 0 < others) (fits : others < 2 ^ 64) where
    abbrev lane : ℕ
    lane = trailing_zeros w64 others

    pub lane-below : lane < 64
    lane-below = (bit_at-trailing_zeros w64 others some fits).0

    pub lane-behind : start ≤ at + lane
    lane-behind =
        ⊎_elim (λ (before : at + lane < start).
        let both : 0 ≡ 1 = sym (has.none_before lane lane-below before) ∙ (bit_at-trailing_zeros w64 others some fits).1 in
        absurd (omega (arith, both)))
        (λ behind. behind)
        (cases_lt (at + lane) start)

    pub others-next : at + 64 ≤ length text → HasPassed text start (at + lane) rows
    others-next room =
        let below = lane-below in
        let behind = lane-behind in
        passed-printables text start (max at start) (at + lane) rows passed (omega (arith, behind)) (omega (arith, below, room))
        (lanes-printable text at start others lane has (omega (arith, below)) (bit_at-trailing_zeros w64 others some fits).2)

    -- once that bit is cleared
    pub others-cleared : HasOthers text at (at + lane + 1) (bit_and others (bit_not w64 (1 * 2 ^ lane % 2 ^ 64)))
    others-cleared =
        let behind = lane-behind in
        record {
          printable = λ k below from none.
              let other : k ≢ lane = λ same. omega (arith, from, same) in
              has.printable k below (omega (arith, from, behind)) (sym (bit_at_clear_other w64 others lane lane-below k below other) ∙ none);
          none_before = λ k below before. ⊎_elim (λ (lower : k < lane).
              let other : k ≢ lane = λ same. omega (arith, lower, same) in
              bit_at_clear_other w64 others lane lane-below k below other ∙ (bit_at-trailing_zeros w64 others some fits).2 k lower)
              (λ (not_lower : lane ≤ k).
              let same : lane ≡ k = omega (arith, not_lower, before) in
              ap (bit_at (bit_and others (bit_not w64 (1 * 2 ^ lane % 2 ^ 64)))) (sym same) ∙ bit_at_clear_same w64 others lane lane-below)
              (cases_lt k lane);
        }
