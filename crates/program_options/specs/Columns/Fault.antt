-- What an error of a run prints, and which one those of a reader, of a table and of a writer become.
use Rattle.std.specs.Prelude.{ℕ, List, ◌++◌, codes, decimal}
use Rattle.program_options.specs.declared.columns.fault.RunFault.{RunFault}
use Rattle.program_options.specs.declared.columns.fault.RunFault.TheVariants.{Read, ReadTooLong, NotUtf8, Escape, Range, LineTooWide, Write, WriteZero, Memory}
use Rattle.grid_config_values.specs.declared.fault.Fault.{Fault}
use Rattle.grid_config_values.specs.declared.fault.Fault.TheVariants.{Memory as NoMemory, Range as PassesMax, Room, Spans}
use Rattle.tabled_output.specs.declared.reading.ReadFault.{ReadFault}
use Rattle.tabled_output.specs.declared.reading.ReadFault.TheVariants.{Read as ReadFailed, TooLong, Memory as NoMemoryToRead}
use Rattle.tabled_output.specs.declared.writing.WriteFault.{WriteFault}
use Rattle.tabled_output.specs.declared.writing.WriteFault.TheVariants.{Write as Failed, WriteZero as TookNothing}

-- the bytes that an error prints
abbrev pub fault_text : RunFault → List ℕ
fault_text Read = codes "read failed"
fault_text ReadTooLong = codes "input too long"
fault_text (NotUtf8 at) = codes "not UTF-8 at byte " ++ decimal at
fault_text (Escape at) = codes "escape at byte " ++ decimal at
fault_text Range = codes "size out of range"
fault_text (LineTooWide row column) = codes "row " ++ (decimal row ++ (codes " column " ++ (decimal column ++ codes " too wide")))
fault_text Write = codes "write failed"
fault_text WriteZero = codes "writer took nothing"
fault_text Memory = codes "out of memory"

-- what a run calls it where the input was not read to its end
abbrev pub read_fault : ReadFault → RunFault
read_fault ReadFailed = Read
read_fault TooLong = ReadTooLong
read_fault NoMemoryToRead = Memory

-- what a run calls it where not all was written
abbrev pub write_fault : WriteFault → RunFault
write_fault Failed = Write
write_fault TookNothing = WriteZero

-- what a run calls it where a text has no table, which has no spans
abbrev pub run_fault : Fault → RunFault
run_fault NoMemory = Memory
run_fault PassesMax = Range
run_fault Spans = Range
run_fault (Room row column) = LineTooWide row column
