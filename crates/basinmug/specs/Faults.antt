-- What the errors of the program are called, and which of them are those of the input, whose name is reported with
-- them.
use Rattle.std.specs.Prelude.{◌≡◌, ◌==◌, ◌++◌, ℕ, Bool, false, true, List, Option, None, Some, codes, if◌then◌else◌}
use Rattle.std.specs.IoError.{error_kind}
use Rattle.std.specs.declared.io.Error.{Error}
use Rattle.std.specs.declared.io.ErrorKind.TheVariants.{BrokenPipe}
use Rattle.basinmug_input.specs.Faults.{fault_text as input_fault_text}
use Rattle.basinmug_input.specs.declared.fault.InputFault.{InputFault}
use Rattle.basinmug_input.specs.declared.fault.InputFault.TheVariants.{NotText as NoUtf8, Quote, Escape, Memory as NoMemoryForInput}
use Rattle.basinmug_run.specs.declared.picture.fault.PrintFault.{PrintFault}
use Rattle.basinmug_run.specs.declared.picture.fault.PrintFault.TheVariants.{NoColumn, Table, Memory as NoMemoryToPrint}
use Rattle.basinmug_run.specs.Faults.{run_fault_text}
use Rattle.basinmug_run.specs.declared.fault.RunFault.{RunFault}
use Rattle.basinmug_run.specs.declared.fault.RunFault.TheVariants.{Input, Print, Memory as NoMemoryToRun}
use Rattle.tabled_output.specs.declared.building.BuildFault.{BuildFault}
use Rattle.tabled_output.specs.declared.building.BuildFault.TheVariants.{Table as OfTable, Write as BufferFailed, WriteZero as WriterTookNothing}
use Rattle.tabled_output.specs.Faults.{fault_text as write_fault_text, read_fault_text}
use Rattle.tabled_output.specs.declared.reading.ReadFault.{ReadFault}
use Rattle.tabled_output.specs.declared.reading.ReadFault.TheVariants.{Read as CallFailed, TooLong, Memory as NoMemoryToRead}
use Rattle.tabled_output.specs.declared.writing.WriteFault.{WriteFault}
use Rattle.tabled_output.specs.declared.writing.WriteFault.TheVariants.{Write as WriteFailed, WriteZero}
use Rattle.basinmug.specs.Encodings.{encoding_of, encoding_text}
use Rattle.basinmug.specs.declared.fault.ProgramFault.{ProgramFault}
use Rattle.basinmug.specs.declared.fault.ProgramFault.TheVariants.{Open, Reading, Read, NotText, Run, Writing, Write, Memory}

-- a call of a reader failed, or the input has no end that is met
abbrev pub is_of_reading : ReadFault → Bool
is_of_reading CallFailed = true
is_of_reading TooLong = true
is_of_reading NoMemoryToRead = false

-- it can't be opened or read, or its text is not readable; a failure of printing, writing or memory is no error of it
abbrev pub is_of_input : ProgramFault → Bool
is_of_input (Open error) = true
is_of_input (Reading error) = true
is_of_input (Read fault) = is_of_reading fault
is_of_input (NotText fault encoding) = true
is_of_input (Run (Input fault)) = true
is_of_input (Run (Print fault)) = false
is_of_input (Run NoMemoryToRun) = false
is_of_input (Writing error) = false
is_of_input (Write fault) = false
is_of_input Memory = false

-- a call of a reader failed, with the reason of the system where it gave one
abbrev pub failed_read : Option Error → ProgramFault
failed_read None = Read CallFailed
failed_read (Some error) = Reading error

-- an error of reading; a lack of memory keeps its name
abbrev pub of_reading : ReadFault → Option Error → ProgramFault
of_reading CallFailed error = failed_read error
of_reading TooLong error = Read TooLong
of_reading NoMemoryToRead error = Memory

-- a call of a writer failed, with the reason of the system where it gave one
abbrev pub failed_write : Option Error → ProgramFault
failed_write None = Write WriteFailed
failed_write (Some error) = Writing error

-- an error of writing
abbrev pub of_writing : WriteFault → Option Error → ProgramFault
of_writing WriteFailed error = failed_write error
of_writing WriteZero error = Write WriteZero

-- nobody reads on what is written
abbrev pub IsClosedPipe : ProgramFault → Type 0
IsClosedPipe (Open error) = ⊥
IsClosedPipe (Reading error) = ⊥
IsClosedPipe (Read fault) = ⊥
IsClosedPipe (NotText fault encoding) = ⊥
IsClosedPipe (Run fault) = ⊥
IsClosedPipe (Writing error) = error_kind error ≡ BrokenPipe
IsClosedPipe (Write fault) = ⊥
IsClosedPipe Memory = ⊥

-- why writing failed, by how many pieces of which the output took nothing
abbrev pub write_fault : ℕ → WriteFault
write_fault empty_writes = if empty_writes == 0 then WriteFailed else WriteZero

-- an error of bytes: of those that are no text with the encoding that they may have
abbrev pub of_bytes : InputFault → List ℕ → ProgramFault
of_bytes (NoUtf8 line field) bytes = NotText (NoUtf8 line field) (encoding_of bytes)
of_bytes (Quote line) bytes = Run (Input (Quote line))
of_bytes (Escape line field) bytes = Run (Input (Escape line field))
of_bytes NoMemoryForInput bytes = Run (Input NoMemoryForInput)

-- an error of a run over bytes into a buffer, whose output took nothing of so many pieces, and gave this reason last:
-- a buffer says only that writing failed, and these say why. A lack of memory keeps its name
abbrev pub of_run : RunFault → List ℕ → ℕ → Option Error → ProgramFault
of_run (Input fault) bytes empty_writes error = of_bytes fault bytes
of_run (Print (NoColumn name)) bytes empty_writes error = Run (Print (NoColumn name))
of_run (Print (Table (OfTable fault))) bytes empty_writes error = Run (Print (Table (OfTable fault)))
of_run (Print (Table BufferFailed)) bytes empty_writes error = of_writing (write_fault empty_writes) error
of_run (Print (Table WriterTookNothing)) bytes empty_writes error = Run (Print (Table WriterTookNothing))
of_run (Print NoMemoryToPrint) bytes empty_writes error = Run (Print NoMemoryToPrint)
of_run NoMemoryToRun bytes empty_writes error = Memory

-- the bytes that an error prints; what an error of the system prints is not known
abbrev pub program_fault_text : ProgramFault → Option (List ℕ)
program_fault_text (Open error) = None
program_fault_text (Reading error) = None
program_fault_text (Read fault) = Some (read_fault_text fault)
program_fault_text (NotText fault encoding) = Some (input_fault_text fault ++ (codes " (" ++ (encoding_text encoding ++ codes ")")))
program_fault_text (Run fault) = Some (run_fault_text fault)
program_fault_text (Writing error) = None
program_fault_text (Write fault) = Some (write_fault_text fault)
program_fault_text Memory = Some (codes "out of memory")
