-- Where printable bytes end the cell or the text, they are the run of the bytes of the cell.
use Rattle.std.proofs.Common.{◌≡◌, ◌∙◌, ◌<◌, ◌≤◌, ℕ, true, false, List, length, get_or, take, ap, sym, arith}
use Rattle.std.specs.Int.{is_in_range}
use Rattle.std.specs.List.{prefix_len}
use Rattle.std.proofs.lemmas.Bool.Decides.{nat_tests}
use Rattle.std.proofs.lemmas.List.Sums.{prefix_len_is}
use Rattle.ansi_scan.proofs.Runs.{list_all-take_run}
use Rattle.columns_run.specs.Ends.{is_cell_text}
use Rattle.grid_records_measure.specs.Measures.{are_printable}
use Rattle.columns_run.proofs.styled_rows.cell_run.Goals as goal

printable-cell : (b : ℕ) → is_in_range 0x20 0x7E b ≡ true → is_cell_text b ≡ true
printable-cell b is = grind (arith, nat_tests, is)

printable-other : (b : ℕ) → is_cell_text b ≡ false → is_in_range 0x20 0x7E b ≡ false
printable-other b is = grind (arith, nat_tests, is)

module _ (text bytes : List ℕ) (k : ℕ) (same : bytes ≡ text) (within : k ≤ length bytes) (printable : (i : ℕ) → i < k → is_in_range 0x20 0x7E (get_or bytes i 0) ≡ true)
    (stop : k < length bytes → is_cell_text (get_or bytes k 0) ≡ false) where
  run-size : k ≡ prefix_len is_cell_text text
  run-size = sym (prefix_len_is is_cell_text bytes k 0 within (λ i below. printable-cell (get_or bytes i 0) (printable i below)) stop) ∙ ap (prefix_len is_cell_text) same

  run-printable : true ≡ are_printable (take k text)
  run-printable =
      let size : k ≡ prefix_len (is_in_range 0x20 0x7E) text =
      sym (prefix_len_is (is_in_range 0x20 0x7E) bytes k 0 within printable (λ inside. printable-other (get_or bytes k 0) (stop inside))) ∙ ap (prefix_len (is_in_range 0x20 0x7E)) same in
      sym (ap (λ n. are_printable (take n text)) size ∙ list_all-take_run (is_in_range 0x20 0x7E) text)

pub returns-then-ends_text-clause-size : goal.returns-then-ends_text-clause-size
returns-then-ends_text-clause-size c =
    run-size c.args.text.now c.as_bytes-bytes.result.now c.printable_end-size.result c.as_bytes-bytes.ensures.value c.printable_end-size.ensures.within.1
    (λ i below. c.printable_end-size.ensures.printable i (omega arith) below) (c.ends_text.ensures c.if-ends_text.true)

pub returns-then-ends_text-clause-printable : goal.returns-then-ends_text-clause-printable
returns-then-ends_text-clause-printable c =
    run-printable c.args.text.now c.as_bytes-bytes.result.now c.printable_end-size.result c.as_bytes-bytes.ensures.value c.printable_end-size.ensures.within.1
    (λ i below. c.printable_end-size.ensures.printable i (omega arith) below) (c.ends_text.ensures c.if-ends_text.true)
