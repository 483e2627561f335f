-- What is wrong with the values of the command line.
use Rattle.std.specs.Prelude.{◌≡◌, ◌⊎◌, ⊤, Option, Some, None, Result, Ok, Err}
use Rattle.clap.specs.Words.{Text}
use Rattle.command_line.specs.Basinmug.Asking.{refusal_of}
use Rattle.command_line.specs.Basinmug.Messages.{refusal_text}
use Rattle.command_line.specs.declared.basinmug.fault.ValueFault.{ValueFault}
use Rattle.command_line.specs.declared.basinmug.fault.ValueFault.TheVariants.{Memory}

-- what is read, or this error where nothing can be
abbrev pub Refuses : {T : Type 0} → Option T → ValueFault → Result T ValueFault → Type 0
Refuses asked fault (Ok value) = asked ≡ Some value
Refuses asked fault (Err found) = (asked ≡ None) × (found ≡ fault)

-- the list is none, and this is the message for it; or memory ran out
abbrev pub IsOfList : {T : Type 0} → Option T → ValueFault → ValueFault → Type 0
IsOfList asked fault found = ((asked ≡ None) × (found ≡ fault)) ⊎ (found ≡ Memory)

-- the first that is wrong with the values; of memory they say nothing
abbrev pub IsValueFault : (Text → Option Text) → ValueFault → Type 0
IsValueFault given Memory = ⊤
IsValueFault given fault = refusal_of given ≡ Some (refusal_text fault)
