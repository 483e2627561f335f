-- The first byte that is looked for ends the run, and none before it does.
use Rattle.std.proofs.Common.{◌≡◌, ℕ, ◌==◌, ◌||◌, ◌&&◌, not, Bool, true, false, List, get_or, length, refl, ap, sym, ◌∙◌, arith}
use Rattle.std.specs.List.{prefix_len}
use Rattle.std.proofs.lemmas.List.Sums.{prefix_len_is}
use Rattle.ansi_scan.specs.Sequences.{escape}
use Rattle.ansi_str.specs.Walking.{is_other}
use Rattle.memchr.specs.Find.{is_byte2}
use Rattle.grid_records_measure.specs.TextLines.{line_feed}
use Rattle.grid_records_measure.proofs.raw_lines.run_len.Goals as goal

-- a byte is looked for, or the run goes on over it
answers : (b : ℕ) (is_escape is_feed : Bool) → (b == escape) ≡ is_escape → (b == line_feed) ≡ is_feed → is_byte2 escape line_feed b ≡ not (is_other line_feed b)
answers b true is_feed e f = ap (λ t. t || b == line_feed) e ∙ sym (ap (λ t. not (not t && not (b == line_feed))) e)
answers b false true e f = ap (λ t. t || b == line_feed) e ∙ f ∙ sym (ap (λ t. not (not t && not (b == line_feed))) e ∙ ap (λ t. not (not t)) f)
answers b false false e f = ap (λ t. t || b == line_feed) e ∙ f ∙ sym (ap (λ t. not (not t && not (b == line_feed))) e ∙ ap (λ t. not (not t)) f)

by-not : (found other : Bool) → found ≡ not other → (found ≡ true → other ≡ false) × ((¬ (found ≡ true)) → other ≡ true)
by-not found true is = ((λ yes. absurd (cc (sym is ∙ yes))), λ _. refl)
by-not found false is = ((λ _. refl), λ no. absurd (no is))

looked : (b : ℕ) → (is_byte2 escape line_feed b ≡ true → is_other line_feed b ≡ false) × ((¬ (is_byte2 escape line_feed b ≡ true)) → is_other line_feed b ≡ true)
looked b = by-not (is_byte2 escape line_feed b) (is_other line_feed b) (answers b (b == escape) (b == line_feed) refl refl)

pub returns-in-Some : goal.returns-in-Some
returns-in-Some c =
    let bytes = c.as_bytes.result.now in
    let len = c.in-Some.len in
    record {
      value =
          sym (prefix_len_is (is_other line_feed) bytes len 0 (omega (arith, c.in-Some.ensures.0.high))
          (λ k low. (looked (get_or bytes k 0)).1 (c.in-Some.ensures.0.before k (omega arith) low))
          (λ _. (looked (get_or bytes len 0)).0 c.in-Some.ensures.1))
          ∙ ap (prefix_len (is_other line_feed)) c.as_bytes.ensures.value;
    }

pub returns-in-None : goal.returns-in-None
returns-in-None c =
    let bytes = c.as_bytes.result.now in
    record {
      value =
          ap (λ (bs : List ℕ). length bs) (sym c.as_bytes.ensures.value)
          ∙ sym (prefix_len_is (is_other line_feed) bytes (length bytes) 0 (omega arith)
          (λ k low. (looked (get_or bytes k 0)).1 (c.in-None.ensures k (omega arith) low))
          (λ more. absurd (omega (arith, more))))
          ∙ ap (prefix_len (is_other line_feed)) c.as_bytes.ensures.value;
    }
