-- When in a run an error may come.
use Rattle.std.specs.Prelude.{Result, Ok, Err, ⊤}
pub use Rattle.program_options.specs.Columns.Fault.{fault_text, read_fault, run_fault, write_fault}
use Rattle.program_options.specs.declared.columns.fault.RunFault.{RunFault}
use Rattle.program_options.specs.declared.columns.fault.RunFault.TheVariants.{Read, ReadTooLong, NotUtf8, Escape, Range, LineTooWide, Write, WriteZero, Memory}
use Rattle.grid_config_values.specs.declared.fault.Fault.{Fault}
use Rattle.tabled_output.specs.declared.writing.WriteFault.{WriteFault}

-- what a run returns where its table was written so, or not
abbrev pub run_answer : Result (Result (Unit {0}) WriteFault) Fault → Result (Unit {0}) RunFault
run_answer (Ok (Ok done)) = Ok done
run_answer (Ok (Err fault)) = Err (write_fault fault)
run_answer (Err fault) = Err (run_fault fault)

-- an error that reading may give
abbrev pub IsOfReading : RunFault → Type 0
IsOfReading Read = ⊤
IsOfReading ReadTooLong = ⊤
IsOfReading Memory = ⊤
IsOfReading _ = ⊥

-- an error that making the table of an input may give
abbrev pub IsOfInput : RunFault → Type 0
IsOfInput (NotUtf8 at) = ⊤
IsOfInput (Escape at) = ⊤
IsOfInput Range = ⊤
IsOfInput (LineTooWide row column) = ⊤
IsOfInput Memory = ⊤
IsOfInput _ = ⊥

-- an error that says why an input has no table
abbrev pub TellsOfInput : RunFault → Type 0
TellsOfInput (NotUtf8 at) = ⊤
TellsOfInput (Escape at) = ⊤
TellsOfInput Range = ⊤
TellsOfInput (LineTooWide row column) = ⊤
TellsOfInput _ = ⊥

-- an error that may come once all is read: of the input, of its table or of the writer, or want of memory
abbrev pub MayFollowReading : RunFault → Type 0
MayFollowReading Read = ⊥
MayFollowReading ReadTooLong = ⊥
MayFollowReading _ = ⊤

-- an error that writing may give
abbrev pub IsOfWriting : RunFault → Type 0
IsOfWriting Write = ⊤
IsOfWriting WriteZero = ⊤
IsOfWriting _ = ⊥

-- an error that may come after something was written
abbrev pub MayFollowWrites : RunFault → Type 0
MayFollowWrites Write = ⊤
MayFollowWrites WriteZero = ⊤
MayFollowWrites Memory = ⊤
MayFollowWrites _ = ⊥
