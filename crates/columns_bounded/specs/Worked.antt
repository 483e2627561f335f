-- Requests and outcomes with their numbers written out. `include/basinmug.h` says what each number means.
use Rattle.std.specs.Prelude.{◌≡◌, ◌≢◌, ℕ, List, [], ◌∷◌, Option, Result}
use Rattle.std.specs.List.{AllByRecursion}
use Rattle.columns_bounded.specs.Answers.{Tells, answer_of, status_of}
use Rattle.columns_bounded.specs.Requests.{wanted_by}
use Rattle.columns_bounded.specs.declared.answer.Answer.{Answer}
use Rattle.columns_bounded.specs.declared.fault.AnswerFault.{AnswerFault}
use Rattle.columns_bounded.specs.declared.request.Request.{Request}
use Rattle.columns_run.specs.DrawnTables.{output_of}

-- ---- requests

-- the numbers of a request, in the order in which they are checked, and then those that always have a meaning
abbrev pub numbers : (version style priority truncate keep_words reserved : ℕ) → List ℕ → (width max_size : ℕ) → Request
numbers version style priority truncate keep_words reserved reserved_words width max_size = record {
  version = version;
  style = style;
  width = width;
  priority = priority;
  truncate = truncate;
  keep_words = keep_words;
  reserved = reserved;
  max_size = max_size;
  reserved_words = reserved_words;
}

-- each reserved number is 0, and so is the greatest size
abbrev pub asks : (style width priority truncate keep_words : ℕ) → Request
asks style width priority truncate keep_words = numbers 1 style priority truncate keep_words 0 (0 ∷ 0 ∷ 0 ∷ []) width 0

-- the greatest number of 32 bits, and of 64
abbrev pub greatest_32 : ℕ
greatest_32 = 4294967295

abbrev pub greatest_64 : ℕ
greatest_64 = 18446744073709551615

-- the bytes of the table of a text, as such a request has it
abbrev pub drawn_by : Request → List ℕ → List ℕ
drawn_by request text = output_of (wanted_by request) text

-- ---- what is reported

-- a report of these numbers
abbrev pub tells : (size place row column : ℕ) → Answer
tells size place row column = record { size = size; place = place; row = row; column = column }

-- the outcome has this status and this report
abbrev pub IsToldBy : Result ℕ AnswerFault → ℕ → Answer → Type 0
IsToldBy outcome status answer = (status_of outcome ≡ status) × (answer_of outcome ≡ answer)

-- with any colours, text and memory the request has this status, nothing is written, and all numbers are zero
abbrev pub IsRefusedBy : ℕ → Request → Type 0
IsRefusedBy number request =
    (list : Option (List ℕ)) (text old new : List ℕ) (status : ℕ) (answer : Answer) → Tells request list text old new status answer →
    (status ≡ number) × (new ≡ old) × (answer ≡ tells 0 0 0 0)

-- its status is never one of those that refuse a request
abbrev pub IsTaken : Request → Type 0
IsTaken request =
    (list : Option (List ℕ)) (text old new : List ℕ) (status : ℕ) (answer : Answer) → Tells request list text old new status answer →
    AllByRecursion (λ number. status ≢ number) (33 ∷ 34 ∷ 35 ∷ 36 ∷ 37 ∷ 38 ∷ [])
