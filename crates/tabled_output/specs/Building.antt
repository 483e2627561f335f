-- What contracts say about a table that is written.
use Rattle.std.specs.Prelude.{◌≡◌, ◌⊎◌, ℕ, List, Err, Result, codes}
use Rattle.grid_config_values.specs.declared.fault.Fault.{Fault}
use Rattle.grid_config_values.specs.declared.fault.Fault.TheVariants.{Memory}
use Rattle.grid_config_values.specs.Fault.{fault_text}
use Rattle.tabled_output.specs.declared.writing.WriteFault.{WriteFault}
use Rattle.tabled_output.specs.declared.writing.WriteFault.TheVariants.{Write as WriteFailed, WriteZero as WriterTookNothing}
use Rattle.tabled_output.specs.declared.building.BuildFault.{BuildFault}
use Rattle.tabled_output.specs.declared.building.BuildFault.TheVariants.{Table, Write, WriteZero}

-- the bytes that an error prints
abbrev pub build_fault_text : BuildFault → List ℕ
build_fault_text (Table fault) = fault_text fault
build_fault_text Write = codes "write failed"
build_fault_text WriteZero = codes "writer took nothing"

-- an error of writing, by the same name
abbrev pub writing_fault : WriteFault → BuildFault
writing_fault WriteFailed = Write
writing_fault WriterTookNothing = WriteZero

-- the table has no text, or allocation failed
abbrev pub NoTable : BuildFault → Type 0
NoTable (Table fault) = Unit {0}
NoTable Write = ⊥
NoTable WriteZero = ⊥

-- the error says that the table is refused, by its own refusal or as `Memory`; or that it fits and the writer gave up
abbrev pub BuildRefusal : Type 0 → (Result (Unit {0}) Fault → Type 0) → BuildFault → Type 0
BuildRefusal Fits IsFitsAnswer (Table fault) = (fault ≡ Memory) ⊎ IsFitsAnswer (Err fault)
BuildRefusal Fits IsFitsAnswer Write = Fits
BuildRefusal Fits IsFitsAnswer WriteZero = Fits
