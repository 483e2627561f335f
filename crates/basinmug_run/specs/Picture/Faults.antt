-- What the errors of printing are called.
use Rattle.std.specs.Prelude.{ℕ, List, ◌++◌, codes, string_bytes}
use Rattle.grid_config_values.specs.declared.fault.Fault.{Fault}
use Rattle.grid_config_values.specs.declared.fault.Fault.TheVariants.{Memory as OutOfMemory, Range, Spans, Room}
use Rattle.tabled_output.specs.Building.{build_fault_text}
use Rattle.tabled_output.specs.declared.building.BuildFault.{BuildFault}
use Rattle.tabled_output.specs.declared.building.BuildFault.TheVariants.{Table as OfTable, Write, WriteZero}
use Rattle.basinmug_run.specs.declared.picture.fault.PrintFault.{PrintFault}
use Rattle.basinmug_run.specs.declared.picture.fault.PrintFault.TheVariants.{NoColumn, Table, Memory}

-- an error of a table; a lack of memory keeps its name
abbrev pub of_table : Fault → PrintFault
of_table OutOfMemory = Memory
of_table Range = Table (OfTable Range)
of_table Spans = Table (OfTable Spans)
of_table (Room row column) = Table (OfTable (Room row column))

abbrev pub of_build : BuildFault → PrintFault
of_build (OfTable fault) = of_table fault
of_build Write = Table Write
of_build WriteZero = Table WriteZero

-- the bytes that an error prints
abbrev pub print_fault_text : PrintFault → List ℕ
print_fault_text (NoColumn name) = codes "there is no column " ++ string_bytes name
print_fault_text (Table fault) = build_fault_text fault
print_fault_text Memory = codes "out of memory"
