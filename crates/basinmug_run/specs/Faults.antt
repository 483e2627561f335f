-- What the errors of a run are called.
use Rattle.std.specs.Prelude.{ℕ, List, codes}
use Rattle.basinmug_input.specs.Faults.{fault_text}
use Rattle.basinmug_input.specs.declared.fault.InputFault.{InputFault}
use Rattle.basinmug_input.specs.declared.fault.InputFault.TheVariants.{NotText, Quote, Escape, Memory as NoMemoryToRead}
use Rattle.basinmug_run.specs.Picture.Faults.{print_fault_text}
use Rattle.basinmug_run.specs.declared.picture.fault.PrintFault.{PrintFault}
use Rattle.basinmug_run.specs.declared.picture.fault.PrintFault.TheVariants.{NoColumn, Table, Memory as NoMemoryToPrint}
use Rattle.basinmug_run.specs.declared.fault.RunFault.{RunFault}
use Rattle.basinmug_run.specs.declared.fault.RunFault.TheVariants.{Input, Print, Memory}

-- an error of the text; a lack of memory keeps its name
abbrev pub of_input : InputFault → RunFault
of_input (NotText line field) = Input (NotText line field)
of_input (Quote line) = Input (Quote line)
of_input (Escape line field) = Input (Escape line field)
of_input NoMemoryToRead = Memory

-- an error of printing; a lack of memory keeps its name
abbrev pub of_print : PrintFault → RunFault
of_print (NoColumn name) = Print (NoColumn name)
of_print (Table fault) = Print (Table fault)
of_print NoMemoryToPrint = Memory

-- the bytes that an error prints
abbrev pub run_fault_text : RunFault → List ℕ
run_fault_text (Input fault) = fault_text fault
run_fault_text (Print fault) = print_fault_text fault
run_fault_text Memory = codes "out of memory"
