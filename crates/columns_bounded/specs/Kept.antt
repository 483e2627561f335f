-- What is kept of a table of which the size is limited.
use Rattle.std.specs.Prelude.{◌≡◌, ◌<◌, ◌≤◌, ℕ, List, [], ◌∷◌, ◌++◌, length, Option, None, Some, Result, Ok, Err}
use Rattle.columns_bounded.specs.declared.fault.AnswerFault.{AnswerFault}
use Rattle.columns_bounded.specs.declared.fault.AnswerFault.TheVariants.{Request as OfRequest, Colors as OfColors, Text as OfText, OverMaxSize}
use Rattle.columns_bounded.specs.declared.kept.Kept.{Kept}
use Rattle.columns_run.specs.DrawnTables.{output_of}
use Rattle.columns_run.specs.Fault.{IsOfWriting}
use Rattle.columns_run.specs.Run.{HasTable, MayEndBy}
use Rattle.columns_run.specs.Wanted.{Wanted}
use Rattle.program_options.specs.declared.columns.fault.RunFault.{RunFault}
use Rattle.program_options.specs.declared.columns.fault.RunFault.TheVariants.{Write, WriteZero}

-- ---- the writer

-- no byte, or one
abbrev pub bytes_in : Option ℕ → List ℕ
bytes_in None = []
bytes_in (Some byte) = byte ∷ []

-- the bytes that it took: those that it keeps, and the one after them
abbrev pub taken_of : Kept → List ℕ
taken_of writer = writer.bytes.items ++ bytes_in writer.past

-- how many it may keep, and then those that it took: each write makes this longer by what it takes
abbrev pub held_of : Kept → List ℕ
held_of writer = writer.most ∷ taken_of writer

-- ---- the table

-- the whole table, of at most so many bytes
abbrev pub IsKeptTable : Wanted → ℕ → List ℕ → List ℕ → Type 0
IsKeptTable wanted most text table = HasTable wanted text × (table ≡ output_of wanted text) × (length table ≤ most)

-- it has more bytes; or there is none, and not for a reason of the writer
abbrev pub IsNotKept : Wanted → ℕ → List ℕ → AnswerFault → Type 0
IsNotKept wanted most text OverMaxSize = HasTable wanted text × (most < length (output_of wanted text))
IsNotKept wanted most text (OfText fault) = MayEndBy wanted text fault × ¬ (IsOfWriting fault)
IsNotKept wanted most text (OfRequest fault) = ⊥
IsNotKept wanted most text OfColors = ⊥

-- what is reported of a run that wrote more bytes than may be kept: that they are too many, where it wrote all, or was stopped
abbrev pub fault_over : Result (Unit {0}) RunFault → AnswerFault
fault_over (Ok done) = OverMaxSize
fault_over (Err Write) = OverMaxSize
fault_over (Err WriteZero) = OverMaxSize
fault_over (Err fault) = OfText fault
