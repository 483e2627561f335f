-- What is reported of a table that may have so many bytes.
use Rattle.std.proofs.Common.{◌≡◌, ◌<◌, ◌≤◌, ℕ, List, Option, Result, Ok, Err, ap, arith, length, subst, sym}
use Rattle.columns_bounded.specs.Answers.{IsOutcome, IsOver, IsTable, IsWithin, OfWanted, Tells, answer_of, request_status, status_of, text_status}
use Rattle.columns_bounded.specs.Requests.{most_by, wanted_in}
use Rattle.columns_bounded.specs.Worked.{tells}
use Rattle.columns_bounded.specs.declared.answer.Answer.{Answer}
use Rattle.columns_bounded.specs.declared.fault.AnswerFault.{AnswerFault}
use Rattle.columns_bounded.specs.declared.fault.AnswerFault.TheVariants.{Request as OfRequest, Colors as OfColors, Text as OfText, OverMaxSize}
use Rattle.columns_bounded.specs.declared.request.Request.{Request}
use Rattle.columns_bounded.specs.declared.request.RequestFault.{RequestFault}
use Rattle.columns_bounded.specs.declared.request.RequestFault.TheVariants.{Version, Style, Priority, Truncate, KeepWords, Reserved}
use Rattle.columns_run.specs.DrawnTables.{output_of}
use Rattle.program_options.specs.declared.columns.fault.RunFault.{RunFault}
use Rattle.program_options.specs.declared.columns.fault.RunFault.TheVariants.{Read, ReadTooLong, NotUtf8, Escape, Range, LineTooWide, Write, WriteZero, Memory}

-- ---- the statuses of errors of a text and of a request

pub of-text : (fault : RunFault) → (0 < text_status fault) × (text_status fault < 10)
of-text (NotUtf8 at) = (omega arith, omega arith)
of-text (Escape at) = (omega arith, omega arith)
of-text Range = (omega arith, omega arith)
of-text (LineTooWide row column) = (omega arith, omega arith)
of-text Memory = (omega arith, omega arith)
of-text ReadTooLong = (omega arith, omega arith)
of-text Read = (omega arith, omega arith)
of-text Write = (omega arith, omega arith)
of-text WriteZero = (omega arith, omega arith)

pub of-request : (fault : RequestFault) → 33 ≤ request_status fault
of-request Version = omega arith
of-request Style = omega arith
of-request Priority = omega arith
of-request Truncate = omega arith
of-request KeepWords = omega arith
of-request Reserved = omega arith

-- ---- what is reported

module _ (request : Request) (list : Option (List ℕ)) (text old new : List ℕ) (status : ℕ) (answer : Answer) where
  pub within-told : Tells request list text old new status answer → status ≡ 0 → IsWithin (most_by request.max_size) answer.size
  within-told told zero = by told.outcome told.called_for told.told told.told_beside
    where
      by : (outcome : Result ℕ AnswerFault) → IsOutcome request list text old new outcome → status ≡ status_of outcome → answer ≡ answer_of outcome →
          IsWithin (most_by request.max_size) answer.size
      by (Ok size) called is beside = subst (IsWithin (most_by request.max_size)) (sym (ap (λ (it : Answer). it.size) beside))
          (let table : IsTable (wanted_in request called.1.0) (most_by request.max_size) text old new (Ok size) = called.1.2 in table.2)
      by (Err (OfRequest fault)) called is beside = absurd (let least = of-request fault in omega (arith, is, zero, least))
      by (Err OfColors) called is beside = absurd (omega (arith, is, zero))
      by (Err OverMaxSize) called is beside = absurd (omega (arith, is, zero))
      by (Err (OfText fault)) called is beside = absurd (let least = (of-text fault).0 in omega (arith, is, zero, least))

  pub over-told : Tells request list text old new status answer → status ≡ 13 →
      OfWanted request list (λ wanted. IsOver (most_by request.max_size) (length (output_of wanted text))) × (new ≡ old) × (answer ≡ tells 0 0 0 0)
  over-told told thirteen = by told.outcome told.called_for told.told told.told_beside
    where
      by : (outcome : Result ℕ AnswerFault) → IsOutcome request list text old new outcome → status ≡ status_of outcome → answer ≡ answer_of outcome →
          OfWanted request list (λ wanted. IsOver (most_by request.max_size) (length (output_of wanted text))) × (new ≡ old) × (answer ≡ tells 0 0 0 0)
      by (Ok size) called is beside = absurd (omega (arith, is, thirteen))
      by (Err (OfRequest fault)) called is beside = absurd (let least = of-request fault in omega (arith, is, thirteen, least))
      by (Err OfColors) called is beside = absurd (omega (arith, is, thirteen))
      by (Err OverMaxSize) called is beside =
          let table : IsTable (wanted_in request called.1.0) (most_by request.max_size) text old new (Err OverMaxSize) = called.1.2 in
          ((called.0, (called.1.0, called.1.1, table.1)), table.2, beside)
      by (Err (OfText fault)) called is beside = absurd (let most = (of-text fault).1 in omega (arith, is, thirteen, most))
