-- The outcome of a request and a text, and how it is reported in numbers.
use Rattle.std.specs.Prelude.{◌≡◌, ◌<◌, ◌≤◌, ⊤, ℕ, List, length, Option, None, Some, Result, Ok, Err}
use Rattle.bounded_output.specs.Filled.{filled}
use Rattle.columns_bounded.specs.Requests.{IsAccepted, IsRefusedAs, colors_in, most_by, wanted_in}
use Rattle.columns_bounded.specs.declared.answer.Answer.{Answer}
use Rattle.columns_bounded.specs.declared.fault.AnswerFault.{AnswerFault}
use Rattle.columns_bounded.specs.declared.fault.AnswerFault.TheVariants.{Request as OfRequest, Colors as OfColors, Text as OfText, OverMaxSize}
use Rattle.columns_bounded.specs.declared.request.Request.{Request}
use Rattle.columns_bounded.specs.declared.request.RequestFault.{RequestFault}
use Rattle.columns_bounded.specs.declared.request.RequestFault.TheVariants.{Version, Style, Priority, Truncate, KeepWords, Reserved}
use Rattle.columns_run.specs.DrawnTables.{output_of}
use Rattle.columns_run.specs.Fault.{IsOfWriting}
use Rattle.columns_run.specs.Run.{HasTable, MayEndBy}
use Rattle.columns_run.specs.Wanted.{Wanted}
use Rattle.program_options.specs.declared.columns.fault.RunFault.{RunFault}
use Rattle.program_options.specs.declared.columns.fault.RunFault.TheVariants.{Read, ReadTooLong, NotUtf8, Escape, Range, LineTooWide, Write, WriteZero, Memory}
use Rattle.grid_config.specs.Colors.{Color}

-- ---- the outcome

-- this holds of what is wanted: each number of the request has a meaning, and the list has the form
abbrev pub OfWanted : Request → Option (List ℕ) → (Wanted → Type 0) → Type 0
OfWanted request list holds = IsAccepted request × ((colors : List (ℕ × Color)) × (colors_in list ≡ Some colors) × holds (wanted_in request colors))

-- so many bytes are no more than a table may have
abbrev pub IsWithin : Option ℕ → ℕ → Type 0
IsWithin None size = ⊤
IsWithin (Some most) size = size ≤ most

-- they are more
abbrev pub IsOver : Option ℕ → ℕ → Type 0
IsOver None size = ⊥
IsOver (Some most) size = most < size

-- a table of no more bytes than it may have: it is written as far as it fits, and its whole size is reported; or an error,
-- and nothing is written
abbrev pub IsTable : Wanted → Option ℕ → List ℕ → List ℕ → List ℕ → Result ℕ AnswerFault → Type 0
IsTable wanted most text old new (Ok size) =
    HasTable wanted text × (size ≡ length (output_of wanted text)) × IsWithin most size × (new ≡ filled old (output_of wanted text))
IsTable wanted most text old new (Err OverMaxSize) = HasTable wanted text × IsOver most (length (output_of wanted text)) × (new ≡ old)
IsTable wanted most text old new (Err (OfText fault)) = MayEndBy wanted text fault × ¬ (IsOfWriting fault) × (new ≡ old)
IsTable wanted most text old new (Err (OfRequest fault)) = ⊥
IsTable wanted most text old new (Err OfColors) = ⊥

-- such a table of what is wanted; or a request or a list that is refused, and nothing is written
abbrev pub IsOutcome : Request → Option (List ℕ) → List ℕ → List ℕ → List ℕ → Result ℕ AnswerFault → Type 0
IsOutcome request list text old new (Err (OfRequest fault)) = IsRefusedAs request fault × (new ≡ old)
IsOutcome request list text old new (Err OfColors) = IsAccepted request × (colors_in list ≡ None) × (new ≡ old)
IsOutcome request list text old new (Err (OfText Memory)) = IsAccepted request × (new ≡ old)
IsOutcome request list text old new outcome = OfWanted request list (λ wanted. IsTable wanted (most_by request.max_size) text old new outcome)

-- ---- its numbers

abbrev pub text_status : RunFault → ℕ
text_status (NotUtf8 at) = 1
text_status (Escape at) = 2
text_status Range = 3
text_status (LineTooWide row column) = 4
text_status Memory = 5
text_status ReadTooLong = 6
text_status Read = 7
text_status Write = 8
text_status WriteZero = 9

abbrev pub request_status : RequestFault → ℕ
request_status Version = 33
request_status Style = 34
request_status Priority = 35
request_status Truncate = 36
request_status KeepWords = 37
request_status Reserved = 38

abbrev pub status_of : Result ℕ AnswerFault → ℕ
status_of (Ok size) = 0
status_of (Err OverMaxSize) = 13
status_of (Err (OfText fault)) = text_status fault
status_of (Err (OfRequest fault)) = request_status fault
status_of (Err OfColors) = 39

-- the size of the whole table, the byte of the error, or the cell that is too wide; else 0
abbrev pub text_answer : RunFault → Answer
text_answer (NotUtf8 at) = record { size = 0; place = at; row = 0; column = 0 }
text_answer (Escape at) = record { size = 0; place = at; row = 0; column = 0 }
text_answer (LineTooWide row column) = record { size = 0; place = 0; row = row; column = column }
text_answer _ = record { size = 0; place = 0; row = 0; column = 0 }

abbrev pub answer_of : Result ℕ AnswerFault → Answer
answer_of (Ok size) = record { size = size; place = 0; row = 0; column = 0 }
answer_of (Err (OfText fault)) = text_answer fault
answer_of (Err (OfRequest fault)) = record { size = 0; place = 0; row = 0; column = 0 }
answer_of (Err OverMaxSize) = record { size = 0; place = 0; row = 0; column = 0 }
answer_of (Err OfColors) = record { size = 0; place = 0; row = 0; column = 0 }

-- ---- what a caller in another language sees

-- there is an outcome of the request, the list of colours (if there is one) and the text; status and answer report it
pub record Tells (request : Request) (list : Option (List ℕ)) (text old new : List ℕ) (status : ℕ) (answer : Answer) : Type 0 where
  pub outcome : Result ℕ AnswerFault
  pub called_for : IsOutcome request list text old new outcome
  pub told : status ≡ status_of outcome
  pub told_beside : answer ≡ answer_of outcome
