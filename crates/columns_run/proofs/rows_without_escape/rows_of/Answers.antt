use Rattle.std.proofs.Common.{◌≡◌, ◌≢◌, ℕ, ◌+◌, ◌-◌, ◌<◌, ◌≤◌, true, false, List, drop, length, map, get_or, refl, ap, sym, subst, ◌∙◌, arith}
use Rattle.std.specs.Prelude.{IfSome, chars, slice_range}
use Rattle.grid_records_measure.specs.Measures.{measure}
use Rattle.std.specs.Int.{is_in_range}
use Rattle.std.proofs.lemmas.Bool.Decides.{nat_tests}
use Rattle.ansi_scan.specs.Sequences.{escape}
use Rattle.columns_table.specs.RowEnds.{EndedRows, row_ended, with_cell}
use Rattle.columns_table.specs.Rows.{split_by_lengths}
use Rattle.columns_table.specs.declared.cells.LineCell.{LineCell}
use Rattle.columns_run.specs.Rows.{line_feed, tab}
use Rattle.columns_run.specs.Cells.{line_of_cell}
use Rattle.columns_run.specs.Ends.{is_cell_text}
use Rattle.columns_run.specs.Passing.{Before, Clear, Pass, lines}
use Rattle.columns_run.proofs.Begun.{AreEnded, Before-last, Before-line_feed, Before-none, Before-start, Before-tab, cell_with}
use Rattle.columns_run.proofs.Passes.{Clear-all, Clear-more, Clear-size, Clear-start, Pass-other, Pass-printable, Pass-text, cell-last}
use Rattle.columns_run.proofs.PrintableCells.{ArePrintable, Before-printables, Clear-to}
use Rattle.columns_run.proofs.rows_without_escape.rows_of.Goals as goal
use Rattle.columns_run.proofs.rows_without_escape.rows_of.Goals.{Joined-has_begun}
use Rattle.columns_run.proofs.rows_without_escape.rows_of.Goals.{then-byte-eq10+in_ok-end_row-in-9, else-byte-eq10, in_default-2-via-then-this-lt9, in_default-2-via-else-this-lt9+else-this-lt11}
use Rattle.columns_run.proofs.rows_without_escape.rows_of.Goals.{then-has_begun+in_ok-push_cell+in_ok-end_row, then-has_begun-via-then-has_begun, then-has_begun-via-else-has_begun+then-start-text, else-has_begun+else-start-text}

printable-text : (b : ℕ) → is_in_range 0x20 0x7E b ≡ true → is_cell_text b ≡ true
printable-text b h = grind (arith, nat_tests, h)

pub loop-end-init : goal.loop-end-init
loop-end-init c =
    let passed = c.in_ok-start.ensures.passed in
    record {
      within = passed.within;
      before = passed.before;
      clear = passed.clear;
      known = λ other. absurd (cc other);
    }

pub push_printable_cells-requires : goal.push_printable_cells-requires
push_printable_cells-requires c =
    let text = c.args.text.now in
    record {
      within = omega arith;
      before = subst (λ (rows : EndedRows). Before text 0 0 true rows) (sym c.in_ok-rows.ensures) (Before-start text c.utf8.text);
      clear = Clear-start text;
    }

pub loop-end-preserved-then-is_printable : goal.loop-end-preserved-then-is_printable
loop-end-preserved-then-is_printable c =
    let text = c.args.text.now in
    let end = c.loop-end.end in
    let to = c.printable_end-end.result in
    let start = c.loop-end.start in
    let plain = c.loop-end.printable in
    let rows = c.loop-end.rows in
    let known = c.loop-end.invariant in
    let bytes : c.as_bytes-bytes.result.now ≡ text = c.as_bytes-bytes.ensures.value in
    let same : get_or text end 0 ≡ get_or c.as_bytes-bytes.result.now end 0 = ap (λ bytes. get_or bytes end 0) (sym bytes) in
    let below : end < length text = omega (arith, ap length bytes) in
    let here : is_in_range 0x20 0x7E (get_or text end 0) ≡ true = ap (is_in_range 0x20 0x7E) same ∙ sym c.if-is_printable.ensures in
    let low : end + 1 ≤ to = c.printable_end-end.ensures.within.0 in
    let high : to ≤ length text = omega (arith, ap length bytes, c.printable_end-end.ensures.within.1) in
    let each : ArePrintable text (end + 1) to =
    λ k from before. subst (λ (found : List ℕ). is_in_range 0x20 0x7E (get_or found k 0) ≡ true) bytes (c.printable_end-end.ensures.printable k from (omega (arith, before, low))) in
    let first : Before text (end + 1) start plain rows = record {
      fit = known.before.fit;
      begins = known.before.begins;
      pass = Pass-printable text end start rows.begun plain rows.counts (lines text rows.ends) below known.before.pass here;
    } in
    record {
      within = high;
      before = Before-printables text (end + 1) to start plain rows first low high each;
      clear = Clear-to text (end + 1) to (Clear-more text end known.clear (λ is. let byte = here in grind (arith, nat_tests, byte))) low each;
      known = λ other.
          let both : true ≡ false = sym (printable-text (get_or text end 0) here) ∙ (known.known other).1 below in
          absurd (cc both);
    }

pub push_printable_cells-requires-then-byte-eq10-2 : goal.push_printable_cells-requires-then-byte-eq10-2
push_printable_cells-requires-then-byte-eq10-2 c =
    let text = c.args.text.now in
    let end = c.loop-end.end in
    let start = c.loop-end.start in
    let rows = c.loop-end.rows in
    let known = c.loop-end.invariant in
    let cell = cell_with end (slice_range text start end) in
    let same : get_or text end 0 ≡ get_or c.as_bytes-bytes.result.now end 0 = ap (λ bytes. get_or bytes end 0) (sym c.as_bytes-bytes.ensures.value) in
    let below : end < length text = omega (arith, ap length c.as_bytes-bytes.ensures.value) in
    let is : c.push_cell.new.rows ≡ with_cell rows cell = c.in_ok-push_cell-in-9.ensures ∙ ap (λ bytes. with_cell rows (cell_with end bytes)) c.range.ensures.value in
    record {
      within = omega (arith, below);
      before = (elim c.if-byte-eq10.branch [
        | then-byte-eq10+in_ok-end_row-in-9 w ↦
            subst (λ (found : EndedRows). Before text (end + 1) (end + 1) true found) (sym (w.rows-is ∙ w.in_ok-end_row-in-9.ensures.ended ∙ ap row_ended is))
            (Before-line_feed text end start c.loop-end.printable rows known.before c.utf8.text below (omega (arith, same)))
        | else-byte-eq10 w ↦
            subst (λ (found : EndedRows). Before text (end + 1) (end + 1) true found) (sym (w.rows-is ∙ is))
            (Before-tab text end start c.loop-end.printable rows known.before c.utf8.text below (omega (arith, same)))
      ]);
      clear = Clear-more text end known.clear (λ other. omega (arith, same, other));
    }

pub loop-end-smaller-in_ok-start-in-9 : goal.loop-end-smaller-in_ok-start-in-9
loop-end-smaller-in_ok-start-in-9 c =
    let goes_on = c.in_ok-start-in-9.ensures.goes_on in
    let within = c.in_ok-start-in-9.ensures.passed.within in
    let below : c.loop-end.end < length c.args.text.now = omega (arith, ap length c.as_bytes-bytes.ensures.value) in
    omega (arith, goes_on, within, below)

pub loop-end-preserved-in_ok-start-in-9 : goal.loop-end-preserved-in_ok-start-in-9
loop-end-preserved-in_ok-start-in-9 c =
    let passed = c.in_ok-start-in-9.ensures.passed in
    record {
      within = passed.within;
      before = passed.before;
      clear = passed.clear;
      known = λ other. absurd (cc other);
    }

pub loop-end-preserved-else-printable : goal.loop-end-preserved-else-printable
loop-end-preserved-else-printable c =
    let text = c.args.text.now in
    let end = c.loop-end.end in
    let start = c.loop-end.start in
    let plain = c.loop-end.printable in
    let rows = c.loop-end.rows in
    let known = c.loop-end.invariant in
    let cell = cell_with end (slice_range text start end) in
    let bytes : c.as_bytes-bytes.result.now ≡ text = c.as_bytes-bytes.ensures.value in
    let same : get_or text end 0 ≡ get_or c.as_bytes-bytes.result.now end 0 = ap (λ bytes. get_or bytes end 0) (sym bytes) in
    let below : end < length text = omega (arith, ap length bytes) in
    let is : c.push_cell.new.rows ≡ with_cell rows cell = c.in_ok-push_cell-in-9.ensures ∙ ap (λ bytes. with_cell rows (cell_with end bytes)) c.range.ensures.value in
    let to = c.printable_end-end-else-printable.result in
    let low : end + 1 ≤ to = c.printable_end-end-else-printable.ensures.within.0 in
    let high : to ≤ length text = omega (arith, ap length bytes, c.printable_end-end-else-printable.ensures.within.1) in
    let each : ArePrintable text (end + 1) to =
    λ k from before. subst (λ (found : List ℕ). is_in_range 0x20 0x7E (get_or found k 0) ≡ true) bytes (c.printable_end-end-else-printable.ensures.printable k from (omega (arith, before, low))) in
    record {
      within = high;
      before = Before-printables text (end + 1) to (end + 1) true _
          (elim c.if-byte-eq10.branch [
            | then-byte-eq10+in_ok-end_row-in-9 w ↦
                subst (λ (found : EndedRows). Before text (end + 1) (end + 1) true found) (sym (w.rows-is ∙ w.in_ok-end_row-in-9.ensures.ended ∙ ap row_ended is))
                (Before-line_feed text end start c.loop-end.printable rows known.before c.utf8.text below (omega (arith, same)))
            | else-byte-eq10 w ↦
                subst (λ (found : EndedRows). Before text (end + 1) (end + 1) true found) (sym (w.rows-is ∙ is))
                (Before-tab text end start c.loop-end.printable rows known.before c.utf8.text below (omega (arith, same)))
          ]) low high each;
      clear = Clear-to text (end + 1) to (Clear-more text end known.clear (λ other. omega (arith, same, other))) low each;
      known = λ other. absurd (cc other);
    }

-- a byte that none of the other arms takes
abbrev Other : ℕ → Type 0
Other b = (b ≢ tab) × (b ≢ line_feed) × (b ≢ escape)

pub loop-end-preserved : goal.loop-end-preserved
loop-end-preserved c =
    let text = c.args.text.now in
    let end = c.loop-end.end in
    let to = c.measured_end.result.0 in
    let start = c.loop-end.start in
    let rows = c.loop-end.rows in
    let known = c.loop-end.invariant in
    let bytes : c.as_bytes-bytes.result.now ≡ text = c.as_bytes-bytes.ensures.value in
    let same : get_or text end 0 ≡ get_or c.as_bytes-bytes.result.now end 0 = ap (λ bytes. get_or bytes end 0) (sym bytes) in
    let below : end < length text = omega (arith, ap length bytes) in
    let low : end + 1 ≤ to = omega (arith, c.measured_end.ensures.within.0) in
    let high : to ≤ length text = c.measured_end.ensures.within.1 in
    let size : end + 1 + (to - (end + 1)) ≡ to = omega (arith, low) in
    let other : Other (get_or text end 0) = elim c.in_default-2.branch [
      | in_default-2-via-then-this-lt9 w ↦ (λ is. omega arith, λ is. omega arith, λ is. omega arith)
      | in_default-2-via-else-this-lt9+else-this-lt11 w ↦ (λ is. omega arith, λ is. omega arith, λ is. omega arith)
    ] in
    let each : (k : ℕ) → end + 1 ≤ k → k < end + 1 + (to - (end + 1)) → is_cell_text (get_or text k 0) ≡ true =
    λ k from before. c.measured_end.ensures.text k (omega (arith, from)) (omega (arith, before, size)) in
    let first = Pass-other text end start rows.begun c.loop-end.printable rows.counts (lines text rows.ends) below known.before.pass other.0 other.1 in
    record {
      within = high;
      before = record {
        fit = known.before.fit;
        begins = known.before.begins;
        pass = subst (λ n. Pass text n start rows.begun false rows.counts (lines text rows.ends)) size
            (Pass-text text (end + 1) (to - (end + 1)) start rows.begun false rows.counts (lines text rows.ends) (omega (arith, size, high)) first each);
      };
      clear = subst (λ n. Clear text n) size (Clear-size text (end + 1) (to - (end + 1)) (Clear-more text end known.clear other.2) each);
      known = λ _. (c.measured_end.ensures.columns, c.measured_end.ensures.stop);
    }

pub push_cell-requires-clause-columns : goal.push_cell-requires-clause-columns
push_cell-requires-clause-columns c = λ other.
    subst (λ (found : List ℕ). IfSome c.loop-end.columns (λ columns. measure (chars found) ≡ columns)) (sym c.range.ensures.value) (c.loop-end.invariant.known other).0

pub push_cell-requires-then-has_begun-clause-columns : goal.push_cell-requires-then-has_begun-clause-columns
push_cell-requires-then-has_begun-clause-columns c = λ other.
    let text = c.args.text.now in
    let all : length text ≤ c.loop-end.end = omega (arith, ap length c.as_bytes-bytes.ensures.value) in
    subst (λ (found : List ℕ). IfSome c.loop-end.columns (λ columns. measure (chars found) ≡ columns)) (cell-last text c.loop-end.start c.loop-end.end all ∙ sym c.range_from.ensures.value) (c.loop-end.invariant.known other).0

-- the rows at the end, and where their cells end
found : (c : Joined-has_begun) → AreEnded c.args.text.now c.if-has_begun.rows
found c =
    let text = c.args.text.now in
    let end = c.loop-end.end in
    let start = c.loop-end.start in
    let plain = c.loop-end.printable in
    let rows = c.loop-end.rows in
    let known = c.loop-end.invariant in
    let cell = cell_with end (drop start text) in
    let all : length text ≤ end = omega (arith, ap length c.as_bytes-bytes.ensures.value) in
    let at_end : length text ≡ end = omega (arith, all, known.within) in
    elim c.if-has_begun.branch [
      | then-has_begun+in_ok-push_cell+in_ok-end_row w ↦
          let some : 0 < rows.begun + (length text - start) = elim w.then-has_begun.branch [
            | then-has_begun-via-then-has_begun w' ↦ grind (arith, nat_tests)
            | then-has_begun-via-else-has_begun+then-start-text w' ↦ omega arith
          ] in
          let is : w.push_cell-then-has_begun.new.rows ≡ with_cell rows cell = w.in_ok-push_cell.ensures ∙ ap (λ bytes. with_cell rows (cell_with end bytes)) w.range_from.ensures.value in
          subst (λ (found : EndedRows). AreEnded text found) (sym (w.rows-is ∙ w.in_ok-end_row.ensures.ended ∙ ap row_ended is)) (Before-last text end start plain rows known.before at_end some)
      | else-has_begun+else-start-text w ↦
          let none : rows.begun ≡ 0 = grind (arith, nat_tests) in
          subst (λ (found : EndedRows). AreEnded text found) (sym w.rows-is) (Before-none text end start plain rows known.before at_end none (omega arith))
    ]

pub of-requires-clause-fit : goal.of-requires-clause-fit
of-requires-clause-fit c = (found (goal.at.of-requires-clause-fit c).Joined-has_begun).fit

pub of-requires-clause-ended : goal.of-requires-clause-ended
of-requires-clause-ended c = (found (goal.at.of-requires-clause-ended c).Joined-has_begun).ended

pub returns-clause-without_escape : goal.returns-clause-without_escape
returns-clause-without_escape c =
    let all : length c.args.text.now ≤ c.loop-end.end = omega (arith, ap length c.as_bytes-bytes.ensures.value) in
    (λ _. Clear-all c.args.text.now c.loop-end.end all c.loop-end.invariant.clear, λ _. refl)

pub returns-clause-rows : goal.returns-clause-rows
returns-clause-rows c =
    let known = found (goal.at.returns-clause-rows c).Joined-has_begun in
    ap (λ (counts : List ℕ). split_by_lengths counts (map line_of_cell c.of.result.cells)) c.of.ensures.counts
    ∙ ap (λ (cells : List LineCell). split_by_lengths c.if-has_begun.rows.counts (map line_of_cell cells)) c.of.ensures.cells
    ∙ known.are.rows
