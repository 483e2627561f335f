use Rattle.std.proofs.Common.{◌≡◌, ◌∙◌, ◌+◌, ◌-◌, ◌≤◌, ℕ, List, Option, Result, ap, arith, drop, subst, sym, take}
use Rattle.std.proofs.lemmas.List.{drop-take}
use Rattle.basinmug_bounded.proofs.OfHeads.{are-read}
use Rattle.basinmug_bounded.proofs.OfSizes.{is-printed}
use Rattle.basinmug_bounded.specs.Outputs.{HasRun, IsPrinted, sized}
use Rattle.basinmug_bounded.specs.Texts.{HaveRecords, IsTextFault, PrintsText, delimited, found_by, read_as}
use Rattle.basinmug_bounded.specs.declared.printing.Size.{Size}
use Rattle.basinmug_bounded.specs.declared.refusal.Refusal.{Refusal}
use Rattle.basinmug_delimiter.specs.declared.Found.{Found}
use Rattle.basinmug_bounded.proofs.printing.print_into.Goals as goal

-- what is between two places is what is after the first, up to the second
taken-between : (start end : ℕ) (text : List ℕ) → start ≤ end → take (end - start) (drop start text) ≡ drop start (take end text)
taken-between start end text within =
    let is : start + (end - start) ≡ end = omega (arith, within) in
    sym (drop-take start (end - start) text) ∙ ap (λ (place : ℕ). drop start (take place text)) is

pub returns : goal.returns
returns c =
    let options = c.args.options.now in
    let text = c.args.text.now in
    let found = c.asked_or_found-found in
    let end = c.end_read-end in
    let bytes = take end.result text in
    let ran = c.run_bounded-outcome in
    let printed : Found → Result Size Refusal → Type 0 =
    λ found outcome. IsPrinted (PrintsText options (read_as found bytes)) (IsTextFault options (read_as found bytes)) c.args.max_size c.args.out.now ran.new.out outcome in
    let has_run : List ℕ → Type 0 =
    λ records. let read = delimited found.result.delimiter records in HasRun (PrintsText options read) (IsTextFault options read) (c.min-most.result + 1) c.args.out.now ran.new.out ran.result.0 ran.result.1 in
    let read = read_as found.result bytes in
    let outcome = c.sized.ensures ∙ ap (λ (most : ℕ). sized ran.result.0 ran.result.1 most) c.min-most.ensures in
    record {
      bytes = bytes;
      are_read =
          are-read c.args.delimiter _ text end.result
          (subst (λ (records : Option ℕ). HaveRecords (found_by c.args.delimiter text) records text bytes) c.records_read.ensures
          (subst (λ (found : Found). HaveRecords found c.records_read.result text bytes) found.ensures.found end.ensures.read));
      printed =
          subst (λ (found : Found). printed found c.sized.result) found.ensures.found
          (subst (printed found.result) (sym outcome)
          (is-printed (PrintsText options read) (IsTextFault options read) tt c.args.max_size c.args.out.now ran.new.out (c.min-most.result + 1) ran.result.1 (ap (λ (most : ℕ). most + 1) c.min-most.ensures) ran.result.0
          (subst has_run (taken-between found.result.start end.result text end.ensures.starts) ran.ensures)));
    }
