-- The first number without a meaning is reported, and nothing else.
use Rattle.std.proofs.Common.{◌≡◌, ◌∙◌, ◌⊎◌, inl, inr, ℕ, List, None, Some, Result, Err, ap, sym}
use Rattle.basinmug_bounded.specs.Answers.{IsOfRecords, IsRefusedFirst, Reports, answer_of, status_of}
use Rattle.basinmug_bounded.specs.Lists.{Texts}
use Rattle.basinmug_bounded.specs.Meant.{IsRefusedRequest}
use Rattle.basinmug_bounded.specs.Requests.{first_fault}
use Rattle.basinmug_bounded.specs.Worked.{AreOfFault}
use Rattle.basinmug_bounded.specs.declared.answer.PrintAnswer.{PrintAnswer}
use Rattle.basinmug_bounded.specs.declared.printing.Size.{Size}
use Rattle.basinmug_bounded.specs.declared.refusal.Refusal.{Refusal}
use Rattle.basinmug_bounded.specs.declared.refusal.Refusal.TheVariants.{Request, List as OfList, Cell, Run, OverMaxSize}
use Rattle.basinmug_bounded.specs.declared.request.PrintRequest.{PrintRequest}
use Rattle.basinmug_bounded.specs.declared.request.RequestFault.{RequestFault}
use Rattle.basinmug_run.specs.declared.options.Options.{Options}

module _ (request : PrintRequest) (fault : RequestFault) (first : first_fault request ≡ Some fault) (lists : Texts) where
  no-other : first_fault request ≡ None → ⊥
  no-other none = let is : Some fault ≡ None = sym first ∙ none in cc is

  refusal-is : (refusal : Refusal) → IsRefusedRequest request lists refusal → refusal ≡ Request fault
  refusal-is (Request other) refused = let is : Some other ≡ Some fault = sym refused ∙ first in cc is
  refusal-is (OfList other) refused = absurd (no-other refused.0)
  refusal-is (Run other) refused = absurd (no-other refused.0)
  refusal-is (Cell other) refused = absurd refused
  refusal-is OverMaxSize refused = absurd refused

  pub of-fault : (IsPrintedBy : Options → Result Size Refusal → Type 0) (old new : List ℕ) (status : ℕ) (answer : PrintAnswer)
      → Reports (λ outcome. IsRefusedFirst request lists old new outcome ⊎ IsOfRecords request lists (λ options. IsPrintedBy options outcome)) status answer
      → AreOfFault fault old new status answer
  of-fault IsPrintedBy old new status answer reports = by reports.is_outcome
    where
      by : IsRefusedFirst request lists old new reports.outcome ⊎ IsOfRecords request lists (λ options. IsPrintedBy options reports.outcome) → AreOfFault fault old new status answer
      by (inl refused) =
          let is : reports.outcome ≡ Err (Request fault) = refused.is ∙ ap Err (refusal-is refused.refusal refused.refused) in
          record { is_status = reports.is_status ∙ ap status_of is; is_answer = reports.is_answer ∙ ap answer_of is; unchanged = refused.unchanged }
      by (inr records) = absurd (no-other records.meant.accepted)
