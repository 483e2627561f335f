-- What a call that writes a text leaves in a writer.
use Rattle.std.specs.Prelude.{◌≡◌, ℕ, List, [], Option, Result, Ok, Err}
use Rattle.grid_config_values.specs.declared.fault.Fault.TheVariants.{Memory}
use Rattle.tabled_output.specs.Pieces.{HasBegun, HasPassed, HasStopped}
use Rattle.tabled_output.specs.declared.building.BuildFault.{BuildFault}
use Rattle.tabled_output.specs.declared.building.BuildFault.TheVariants.{Table, Write, WriteZero}
use Rattle.tabled_output.specs.declared.counted.Counted.{Counted}
use Rattle.tabled_output.specs.declared.writing.WriteFault.TheVariants.{Write as WriteFailed, WriteZero as WriterTookNothing}

-- all of the text is written; or a prefix of it, for want of memory; or a prefix of it, after which the writer failed
-- or took nothing
abbrev pub Writes : {T A : Type 0} → (T → Option (List ℕ)) → List ℕ → Result A BuildFault → Counted T → Counted T → Type 0
Writes contents text (Ok done) before after = HasPassed contents text [] before after
Writes contents text (Err (Table fault)) before after = (fault ≡ Memory) × HasBegun contents text before after
Writes contents text (Err Write) before after = HasStopped contents text WriteFailed before after
Writes contents text (Err WriteZero) before after = HasStopped contents text WriterTookNothing before after
