-- What is said of a table that is written, also where each line is written as soon as it is made.
use Rattle.std.specs.Prelude.{◌≡◌, ◌⊎◌, Bool, ◌==◌, if◌then◌else◌, ℕ, List, [], ◌∷◌, ◌++◌, Option, Result, Ok, Err, IfErr, IsErrOf, OnErr, OnOk}
use Rattle.std.specs.Io.KnownBytes.{Appends}
use Rattle.grid_config_values.specs.declared.fault.Fault.{Fault}
use Rattle.grid_records_measure.specs.TextLines.{line_feed}
use Rattle.tabled_output.specs.Counts.{inner_of, WritesUntil}
use Rattle.tabled_output.specs.Streams.{AppendsFront}
use Rattle.tabled_output.specs.declared.counted.Counted.{Counted}
use Rattle.tabled_output.specs.declared.writing.WriteFault.{WriteFault}
use Rattle.tabled_steps.specs.States.{State}
use Rattle.papergrid.specs.Chosen.{chosen_text}
use Rattle.papergrid.specs.LineKind.{LineKind}
use Rattle.tabled.specs.Printing.{IsFitsAnswer, drawn_heights, drawn_widths, printed}
use Rattle.tabled.specs.Totals.{drawn_height}
use Rattle.tabled_output.specs.Building.{BuildRefusal, writing_fault}
use Rattle.tabled_output.specs.declared.building.BuildFault.{BuildFault}
use Rattle.tabled_output.specs.declared.building.BuildFault.TheVariants.{Table, Write, WriteZero}

-- a text of a table is written: all of it; or with an error nothing, or a prefix of it, but a prefix only where the
-- table fits. The writer fails, or takes nothing, exactly where the error says so
pub record IsBuilt {T : Type 0} (contents : T → Option (List ℕ)) (s : State) (text : List ℕ) (result : Result (Unit {0}) BuildFault) (before after : Counted T) : Type 0 where
  pub whole : OnOk result (Appends (contents (inner_of before)) (contents (inner_of after)) text)
  pub front : OnErr result ((after ≡ before) ⊎ (IsFitsAnswer s (Ok tt) × AppendsFront (contents (inner_of before)) (contents (inner_of after)) text))
  pub writer : WritesUntil (IsErrOf result Write) (IsErrOf result WriteZero) before after

-- a table that was written fits; an error says how it is refused, or that it fits and the writer gave up
pub record FitsOrIsRefused (s : State) (result : Result (Unit {0}) BuildFault) : Type 0 where
  pub fits : OnOk result (IsFitsAnswer s (Ok tt))
  pub refused : IfErr result (BuildRefusal (IsFitsAnswer s (Ok tt)) (IsFitsAnswer s))

-- the result of a table that was written so, or not
abbrev pub build_answer : Result (Result (Unit {0}) WriteFault) Fault → Result (Unit {0}) BuildFault
build_answer (Ok (Ok done)) = Ok done
build_answer (Ok (Err fault)) = Err (writing_fault fault)
build_answer (Err fault) = Err (Table fault)

-- the lines of its text that are chosen, by what they show, in turn, each with a line feed after it
abbrev pub chosen_lines : (LineKind → Bool) → State → List ℕ
chosen_lines chooses s = chosen_text s.look s.rows s.colors (drawn_widths s) (drawn_heights s) chooses

-- the text of a table, and a line feed after its last line, where it has lines
abbrev pub ended_text : State → List ℕ
ended_text s = printed s ++ (if drawn_height s == 0 then [] else line_feed ∷ [])
