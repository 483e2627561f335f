-- What is in the heads of records.
use Rattle.std.specs.Prelude.{◌≡◌, ◌<◌, ℕ, ◌++◌, List, [], Result, Ok, Err, String, codes, decimal, length, slice_index_or, string_bytes}
use Rattle.std.specs.declared.alloc.Global.{Global}
use Rattle.grid_config_values.specs.declared.fault.Fault.{Fault}
use Rattle.grid_config_values.specs.declared.fault.Fault.TheVariants.{Memory}

-- what a template returns for a record: a text, or an error
abbrev pub Answer : Type 0
Answer = Result (String Global) Fault

-- the number of a record, which counts from 0, in brackets
abbrev pub record_number : ℕ → List ℕ
record_number number = codes "[ RECORD " ++ (decimal number ++ codes " ]")

-- the number of the record; it is refused only for want of memory
abbrev pub GivesNumber : ℕ → Answer → Type 0
GivesNumber number (Ok text) = string_bytes text ≡ record_number number
GivesNumber number (Err fault) = fault ≡ Memory

-- head i is a text that is given for record i
abbrev pub AreHeads : (ℕ → Answer → Type 0) → List (List ℕ) → Type 0
AreHeads gives heads =
    (i : ℕ) → i < length heads → (text : String Global) × gives i (Ok text) × (string_bytes text ≡ slice_index_or heads i [])

-- of so many records, those before one have heads, and for that one the error is given
abbrev pub IsFaultOfHead : (ℕ → Answer → Type 0) → ℕ → Fault → Type 0
IsFaultOfHead gives count fault =
    (heads : List (List ℕ)) × AreHeads gives heads × (length heads < count) × gives (length heads) (Err fault)
