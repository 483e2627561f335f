-- A line is appended after a line feed, or as the first.
use Rattle.std.proofs.Common.{◌≡◌, ◌∙◌, ◌++◌, ◌<◌, ap, arith, length, sym, subst, List, ℕ, string_bytes, true}
use Rattle.std.specs.Prelude.{Err, Ok, OnOk, Result, if◌then◌else◌, is_ok}
use Rattle.std.proofs.lemmas.Bool.Decides.{nat_tests}
use Rattle.std.proofs.lemmas.Str.{encode_ascii}
use Rattle.grid_records_measure.specs.TextLines.{line_feed}
use Rattle.basinmug_columns.specs.Fitting.Fitting.{is_not_blank}
use Rattle.basinmug_columns.proofs.FittingLemmas.Plain.{Appends, Appends-first, Appends-next}
use Rattle.basinmug_columns.proofs.fitting.wrapping.push_seen_line.Goals as goal
use Rattle.basinmug_columns.proofs.fitting.wrapping.push_seen_line.Goals.{then-not-is_empty+in_ok-push, else-not-is_empty}

pushed : {A E : Type 0} (r : Result A E) (new old bytes kept line : List ℕ) → Appends old bytes line → new ≡ (if is_ok r then bytes else kept) → OnOk r (Appends old new line)
pushed (Ok a) new old bytes kept line appends is = λ lines show from. is ∙ appends lines show from
pushed (Err e) new old bytes kept line appends is = tt

pub returns : goal.returns
returns c =
    let old = string_bytes c.args.out.now in
    let line = c.args.line.now in
    let shown : is_not_blank line ≡ true = sym c.is_not_blank.ensures ∙ c.if-not-is_not_blank.false in
    let Follows : List ℕ → Type 0 = λ (bytes : List ℕ). Appends old (bytes ++ line) line in
    let feed : line_feed < 128 = omega arith in
    let appends : Follows (string_bytes c.if-not-is_empty.out) =
    elim c.if-not-is_empty.branch [
      | then-not-is_empty+in_ok-push w ↦
          let some : 0 < length old = grind (arith, nat_tests, c.is_empty.ensures, w.if-not-is_empty.true) in
          subst Follows (sym (ap string_bytes w.out-is ∙ w.in_ok-push.ensures.bytes ∙ ap (λ (bytes : List ℕ). old ++ bytes) (encode_ascii line_feed feed))) (Appends-next old line shown some)
      | else-not-is_empty w ↦
          let none : length old ≡ 0 = grind (arith, nat_tests, c.is_empty.ensures, w.if-not-is_empty.false) in
          subst Follows (sym (ap string_bytes w.out-is)) (Appends-first old line shown none)
    ] in
    pushed c.push_str.result (string_bytes c.push_str.new.self) old (string_bytes c.if-not-is_empty.out ++ line) (string_bytes c.if-not-is_empty.out) line appends c.push_str.ensures.bytes
