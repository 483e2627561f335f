-- Requests and outcomes with their numbers written out. `include/basinmug.h` says what each number means.
use Rattle.std.specs.Prelude.{◌≡◌, ℕ, List, [], ◌∷◌, Some, Result}
use Rattle.basinmug_bounded.specs.Answers.{answer_of, answers, request_status, status_of}
use Rattle.basinmug_bounded.specs.Requests.{first_fault}
use Rattle.basinmug_bounded.specs.declared.answer.PrintAnswer.{PrintAnswer}
use Rattle.basinmug_bounded.specs.declared.printing.Size.{Size}
use Rattle.basinmug_bounded.specs.declared.refusal.Refusal.{Refusal}
use Rattle.basinmug_bounded.specs.declared.request.PrintRequest.{PrintRequest}
use Rattle.basinmug_bounded.specs.declared.request.RequestFault.{RequestFault}

-- the greatest number of 64 bits
abbrev pub greatest : ℕ
greatest = 18446744073709551615

-- ---- requests

-- the numbers of a request, in the order in which they are checked; `max_rows` and `max_size` always have a meaning
abbrev pub numbers : (size delimiter no_header style rules escapes truncate priority expanded all_columns width tail head reserved : ℕ) → List ℕ → PrintRequest
numbers size delimiter no_header style rules escapes truncate priority expanded all_columns width tail head reserved reserved_words = record {
  size = size;
  delimiter = delimiter;
  no_header = no_header;
  style = style;
  rules = rules;
  escapes = escapes;
  truncate = truncate;
  priority = priority;
  expanded = expanded;
  all_columns = all_columns;
  reserved = reserved;
  width = width;
  max_rows = greatest;
  tail = tail;
  max_size = greatest;
  head = head;
  reserved_words = reserved_words;
}

-- the reserved words
abbrev pub zeros : List ℕ
zeros = 0 ∷ 0 ∷ 0 ∷ 0 ∷ 0 ∷ 0 ∷ []

-- two requests, of which no number means in the one what it means in the other, nor each of two flags the same
abbrev pub some_numbers : PrintRequest
some_numbers = numbers 136 59 1 0 1 2 0 3 1 0 60 5 0 0 zeros

abbrev pub other_numbers : PrintRequest
other_numbers = numbers 136 0 0 5 2 1 1 4 0 1 greatest greatest 3 0 zeros

-- its first number without a meaning is this
abbrev pub HasFault : PrintRequest → RequestFault → Type 0
HasFault request fault = first_fault request ≡ Some fault

-- ---- what is reported

-- the outcome has this status and this answer
abbrev pub IsReportedBy : Result Size Refusal → ℕ → PrintAnswer → Type 0
IsReportedBy outcome status answer = (status_of outcome ≡ status) × (answer_of outcome ≡ answer)

-- this status and this answer report such an error of a request, and nothing was written
pub record AreOfFault (fault : RequestFault) (old new : List ℕ) (status : ℕ) (answer : PrintAnswer) : Type 0 where
  pub is_status : status ≡ request_status fault
  pub is_answer : answer ≡ answers 0 0 0 0 0 0
  pub unchanged : new ≡ old
