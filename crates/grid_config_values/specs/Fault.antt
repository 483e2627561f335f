-- The texts of errors.
use Rattle.std.specs.Prelude.{ℕ, List, ◌++◌, codes, decimal}
use Rattle.grid_config_values.specs.declared.fault.Fault.{Fault}
use Rattle.grid_config_values.specs.declared.fault.Fault.TheVariants.{Memory, Range, Spans, Room}

-- the bytes that an error prints
abbrev pub fault_text : Fault → List ℕ
fault_text Memory = codes "out of memory"
fault_text Range = codes "size out of range"
fault_text Spans = codes "bad spans"
fault_text (Room row column) = codes "row " ++ (decimal row ++ (codes " column " ++ (decimal column ++ codes " does not fit")))
