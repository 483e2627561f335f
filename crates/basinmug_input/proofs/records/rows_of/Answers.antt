-- A text whose rows are read part by part has no error.
use Rattle.std.proofs.Common.{◌≡◌, ◌∙◌, ℕ, List, subst}
use Rattle.std.specs.List.{AllByRecursion}
use Rattle.csv.specs.Reading.{records}
use Rattle.basinmug_input.specs.Faults.{IsTextWithClosedQuotes}
use Rattle.basinmug_input.specs.Flaws.{IsReadableField}
use Rattle.basinmug_input.specs.Reading.{settings}
use Rattle.basinmug_input.specs.Rows.{text_of_bytes}
use Rattle.basinmug_input.proofs.records.rows_of.Goals as goal

pub returns-in-Some-clause-readable : goal.returns-in-Some-clause-readable
returns-in-Some-clause-readable c =
    let d = c.args.delimiter in
    let text = text_of_bytes c.args.bytes.now in
    let read : c.in_ok-text.text.now ≡ text = c.in_ok-text.ensures.text ∙ c.without_mark-text.ensures in
    let rows = rw c.in-Some.is at c.in_ok-read.ensures.rows in
    let closed = rw c.in-Some.is at c.in_ok-read.ensures.closed in
    record {
      is_text = subst (IsTextWithClosedQuotes (settings d)) read closed;
      sound = subst (λ (of : List ℕ). AllByRecursion (AllByRecursion (IsReadableField c.args.escapes)) (records (settings d) of)) read rows.sound;
    }
