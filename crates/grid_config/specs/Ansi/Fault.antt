-- The texts of errors.
use Rattle.std.specs.Prelude.{ℕ, List, codes}
use Rattle.grid_config.specs.declared.colors.fault.BufFault.{BufFault}
use Rattle.grid_config.specs.declared.colors.fault.BufFault.TheVariants.{NoBlock, Memory}

-- the bytes that an error prints
abbrev pub fault_text : BufFault → List ℕ
fault_text NoBlock = codes "no text to take a colour from"
fault_text Memory = codes "out of memory"
