-- Where a run of printable bytes ends a cell or the text, it is the run of the bytes of the cell.
use Rattle.std.proofs.Common.{◌≡◌, ◌∙◌, ◌<◌, ℕ, suc, Bool, true, false, List, [], ◌∷◌, length, get_or, take, refl, sym, ap, arith}
use Rattle.std.specs.Int.{is_in_range}
use Rattle.std.specs.List.{prefix_len}
use Rattle.std.proofs.lemmas.Bool.Decides.{nat_tests}
use Rattle.ansi_scan.proofs.Runs.{list_all-take_run, prefix_len-fail, prefix_len-pass}
use Rattle.columns_run.specs.Ends.{is_cell_text}
use Rattle.grid_records_measure.specs.Measures.{are_printable}
use Rattle.columns_run.proofs.styled_rows.longer_run.Goals as goal

abbrev Printable : ℕ → Bool
Printable = is_in_range 0x20 0x7E

printable-cell : (b : ℕ) → Printable b ≡ true → is_cell_text b ≡ true
printable-cell b is = grind (arith, nat_tests, is)

-- one byte more
one-more : (b : ℕ) (bs : List ℕ) (is : Bool) → Printable b ≡ is
    → (prefix_len Printable (b ∷ bs) < length (b ∷ bs) → is_cell_text (get_or (b ∷ bs) (prefix_len Printable (b ∷ bs)) 0) ≡ false)
    → ((prefix_len Printable bs < length bs → is_cell_text (get_or bs (prefix_len Printable bs) 0) ≡ false) → prefix_len is_cell_text bs ≡ prefix_len Printable bs)
    → prefix_len is_cell_text (b ∷ bs) ≡ prefix_len Printable (b ∷ bs)
one-more b bs true e stops others =
    let size = prefix_len-pass Printable b bs e in
    let later : prefix_len Printable bs < length bs → is_cell_text (get_or bs (prefix_len Printable bs) 0) ≡ false =
    λ inside. ap (λ n. is_cell_text (get_or (b ∷ bs) n 0)) (sym size) ∙ stops (omega (arith, size, inside)) in
    prefix_len-pass is_cell_text b bs (printable-cell b e) ∙ ap suc (others later) ∙ sym size
one-more b bs false e stops others =
    let none = prefix_len-fail Printable b bs e in
    let here : is_cell_text b ≡ false = ap (λ n. is_cell_text (get_or (b ∷ bs) n 0)) (sym none) ∙ stops (omega (arith, none)) in
    prefix_len-fail is_cell_text b bs here ∙ sym none

printable-run : (bytes : List ℕ) → (prefix_len Printable bytes < length bytes → is_cell_text (get_or bytes (prefix_len Printable bytes) 0) ≡ false) → prefix_len is_cell_text bytes ≡ prefix_len Printable bytes
printable-run [] stops = refl
printable-run (b ∷ bs) stops = one-more b bs (Printable b) refl stops (printable-run bs)

module _ (text bytes : List ℕ) (k : ℕ) (same : bytes ≡ text) (is : k ≡ prefix_len Printable bytes) where
  run-size : (k < length bytes → is_cell_text (get_or bytes k 0) ≡ false) → k ≡ prefix_len is_cell_text text
  run-size stop =
      let stops : prefix_len Printable bytes < length bytes → is_cell_text (get_or bytes (prefix_len Printable bytes) 0) ≡ false =
      λ inside. ap (λ n. is_cell_text (get_or bytes n 0)) (sym is) ∙ stop (omega (arith, is, inside)) in
      is ∙ sym (printable-run bytes stops) ∙ ap (prefix_len is_cell_text) same

  run-printable : true ≡ are_printable (take k text)
  run-printable =
      let size : k ≡ prefix_len Printable text = is ∙ ap (prefix_len Printable) same in
      sym (ap (λ n. are_printable (take n text)) size ∙ list_all-take_run Printable text)

pub returns-then-ends_text-clause-size : goal.returns-then-ends_text-clause-size
returns-then-ends_text-clause-size c =
    run-size c.args.text.now c.as_bytes-bytes.result.now c.printable_len-size.result c.as_bytes-bytes.ensures.value c.printable_len-size.ensures (c.ends_text.ensures c.if-ends_text.true)

pub returns-then-ends_text-clause-printable : goal.returns-then-ends_text-clause-printable
returns-then-ends_text-clause-printable c =
    run-printable c.args.text.now c.as_bytes-bytes.result.now c.printable_len-size.result c.as_bytes-bytes.ensures.value c.printable_len-size.ensures
