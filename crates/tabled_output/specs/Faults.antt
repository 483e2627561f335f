-- What errors of reading and writing are called.
use Rattle.std.specs.Prelude.{ℕ, List, codes}
use Rattle.tabled_output.specs.declared.reading.ReadFault.{ReadFault}
use Rattle.tabled_output.specs.declared.reading.ReadFault.TheVariants.{Read, TooLong, Memory}
use Rattle.tabled_output.specs.declared.writing.WriteFault.{WriteFault}
use Rattle.tabled_output.specs.declared.writing.WriteFault.TheVariants.{Write, WriteZero}

-- the bytes that an error of writing prints
abbrev pub fault_text : WriteFault → List ℕ
fault_text Write = codes "write failed"
fault_text WriteZero = codes "writer took nothing"

-- the bytes that an error of reading prints
abbrev pub read_fault_text : ReadFault → List ℕ
read_fault_text Read = codes "read failed"
read_fault_text TooLong = codes "input too long"
read_fault_text Memory = codes "out of memory"
