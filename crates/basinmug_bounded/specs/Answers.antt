-- The outcome of a request, its lists and a text, and how it is reported in numbers.
use Rattle.std.specs.Prelude.{◌≡◌, ◌⊎◌, ℕ, List, Result, Ok, Err, if◌then◌else◌}
use Rattle.basinmug_bounded.specs.Meant.{AreOptionsOf, IsRefusedRequest}
use Rattle.basinmug_bounded.specs.CellOutputs.{IsCellsPrinted}
use Rattle.basinmug_bounded.specs.Cells.{Given}
use Rattle.basinmug_bounded.specs.Lists.{Texts}
use Rattle.basinmug_bounded.specs.Texts.{IsTextPrinted}
use Rattle.basinmug_bounded.specs.Requests.{delimiter_in, head_in}
use Rattle.basinmug_bounded.specs.declared.answer.PrintAnswer.{PrintAnswer}
use Rattle.basinmug_bounded.specs.declared.printing.Size.{Size}
use Rattle.basinmug_bounded.specs.declared.refusal.CellFault.{CellFault}
use Rattle.basinmug_bounded.specs.declared.refusal.CellFault.TheVariants as cell
use Rattle.basinmug_bounded.specs.declared.refusal.ListFault.{ListFault}
use Rattle.basinmug_bounded.specs.declared.refusal.ListFault.TheVariants as list
use Rattle.basinmug_bounded.specs.declared.refusal.Refusal.{Refusal}
use Rattle.basinmug_bounded.specs.declared.refusal.Refusal.TheVariants.{Request, List as OfList, Cell, Run, OverMaxSize}
use Rattle.basinmug_bounded.specs.declared.request.PrintRequest.{PrintRequest}
use Rattle.basinmug_bounded.specs.declared.request.RequestFault.{RequestFault}
use Rattle.basinmug_bounded.specs.declared.request.RequestFault.TheVariants as fault
use Rattle.basinmug_input.specs.declared.fault.InputFault.TheVariants as input
use Rattle.basinmug_run.specs.declared.fault.RunFault.{RunFault}
use Rattle.basinmug_run.specs.declared.fault.RunFault.TheVariants.{Input, Print, Memory}
use Rattle.basinmug_run.specs.declared.picture.fault.PrintFault.TheVariants as print
use Rattle.grid_config_values.specs.declared.fault.Fault.TheVariants as cells
use Rattle.basinmug_run.specs.declared.options.Options.{Options}
use Rattle.tabled_output.specs.declared.building.BuildFault.TheVariants as build

-- ---- the outcome

-- the request is refused, and nothing is written
pub record IsRefusedFirst (request : PrintRequest) (lists : Texts) (old new : List ℕ) (outcome : Result Size Refusal) : Type 0 where
  pub refusal : Refusal
  pub is : outcome ≡ Err refusal
  pub refused : IsRefusedRequest request lists refusal
  pub unchanged : new ≡ old

-- it means these options, by which the records are printed or refused
pub record IsOfRecords (request : PrintRequest) (lists : Texts) (IsPrintedBy : Options → Type 0) : Type 0 where
  pub options : Options
  pub meant : AreOptionsOf request lists options
  pub printed : IsPrintedBy options

-- one of both, for the records of a text
abbrev pub IsOutcome : PrintRequest → Texts → List ℕ → List ℕ → List ℕ → Result Size Refusal → Type 0
IsOutcome request lists text old new outcome =
    IsRefusedFirst request lists old new outcome
    ⊎ IsOfRecords request lists (λ options. IsTextPrinted options (delimiter_in request.delimiter) (head_in request.head) text request.max_size old new outcome)

-- the same, for records as cells
abbrev pub IsCellsOutcome : PrintRequest → Texts → Given → List ℕ → List ℕ → Result Size Refusal → Type 0
IsCellsOutcome request lists given old new outcome =
    IsRefusedFirst request lists old new outcome
    ⊎ IsOfRecords request lists (λ options. IsCellsPrinted options (head_in request.head) given request.max_size old new outcome)

-- ---- its numbers

abbrev pub request_status : RequestFault → ℕ
request_status fault.Size = 33
request_status fault.Style = 34
request_status fault.Priority = 35
request_status fault.Truncate = 36
request_status fault.Reserved = 38
request_status fault.Delimiter = 40
request_status fault.NoHeader = 41
request_status fault.Rules = 42
request_status fault.Escapes = 43
request_status fault.Expanded = 44
request_status fault.Width = 45
request_status fault.AllColumns = 48
request_status fault.Head = 50

abbrev pub list_status : ListFault → ℕ
list_status list.Color = 39
list_status list.Align = 46
list_status list.Columns = 47

abbrev pub cell_status : CellFault → ℕ
cell_status (cell.NotText row column) = 1
cell_status (cell.Escape row column) = 2
cell_status cell.Lengths = 49

abbrev pub run_status : RunFault → ℕ
run_status (Input (input.NotText line field)) = 1
run_status (Input (input.Escape line field)) = 2
run_status (Print (print.Table (build.Table cells.Range))) = 3
run_status (Print (print.Table (build.Table (cells.Room row column)))) = 4
run_status (Input input.Memory) = 5
run_status (Print (print.Table (build.Table cells.Memory))) = 5
run_status (Print print.Memory) = 5
run_status Memory = 5
run_status (Print (print.Table build.Write)) = 8
run_status (Print (print.Table build.WriteZero)) = 9
run_status (Input (input.Quote line)) = 10
run_status (Print (print.NoColumn name)) = 11
run_status (Print (print.Table (build.Table cells.Spans))) = 12

abbrev pub status_of : Result Size Refusal → ℕ
status_of (Ok size) = 0
status_of (Err (Request refused)) = request_status refused
status_of (Err (OfList refused)) = list_status refused
status_of (Err (Run refused)) = run_status refused
status_of (Err (Cell refused)) = cell_status refused
status_of (Err OverMaxSize) = 13

-- ---- and the rest

-- an answer of these numbers
abbrev pub answers : (size wider line field row column : ℕ) → PrintAnswer
answers size wider line field row column = record { size = size; wider = wider; line = line; field = field; row = row; column = column }

-- the place of an error; 0 for a number that has nothing to report
abbrev pub run_answer : RunFault → PrintAnswer
run_answer (Input (input.NotText line field)) = answers 0 0 line field 0 0
run_answer (Input (input.Escape line field)) = answers 0 0 line field 0 0
run_answer (Input (input.Quote line)) = answers 0 0 line 0 0 0
run_answer (Print (print.Table (build.Table (cells.Room row column)))) = answers 0 0 0 0 row column
run_answer _ = answers 0 0 0 0 0 0

abbrev pub cell_answer : CellFault → PrintAnswer
cell_answer (cell.NotText row column) = answers 0 0 0 0 row column
cell_answer (cell.Escape row column) = answers 0 0 0 0 row column
cell_answer cell.Lengths = answers 0 0 0 0 0 0

abbrev pub answer_of : Result Size Refusal → PrintAnswer
answer_of (Ok size) = answers size.bytes (if size.wider then 1 else 0) 0 0 0 0
answer_of (Err (Run refused)) = run_answer refused
answer_of (Err (Cell refused)) = cell_answer refused
answer_of (Err _) = answers 0 0 0 0 0 0

-- ---- what a caller in another language sees

-- an outcome is reported by this status and this answer
pub record Reports (IsOutcomeHere : Result Size Refusal → Type 0) (status : ℕ) (answer : PrintAnswer) : Type 0 where
  pub outcome : Result Size Refusal
  pub is_outcome : IsOutcomeHere outcome
  pub is_status : status ≡ status_of outcome
  pub is_answer : answer ≡ answer_of outcome

-- that of the records of a text
abbrev pub ReportsText : PrintRequest → Texts → List ℕ → List ℕ → List ℕ → ℕ → PrintAnswer → Type 0
ReportsText request lists text old new status answer = Reports (IsOutcome request lists text old new) status answer

-- that of records as cells
abbrev pub ReportsCells : PrintRequest → Texts → Given → List ℕ → List ℕ → ℕ → PrintAnswer → Type 0
ReportsCells request lists given old new status answer = Reports (IsCellsOutcome request lists given old new) status answer
