-- What is reported when a part of a table that fits is written.
use Rattle.std.proofs.Common.{◌≡◌, ◌⊎◌, ◌∙◌, sym, Option, None, Some, Result, Ok, Err, inl, inr}
use Rattle.std.specs.Prelude.{IfErr}
use Rattle.grid_config_values.specs.declared.fault.Fault.{Fault}
use Rattle.grid_config_values.specs.declared.fault.Fault.TheVariants.{Memory, Range, Spans, Room}
use Rattle.grid_config_values.specs.declared.position.Position.{Position}
use Rattle.papergrid_picture.specs.Picture.{at}
use Rattle.tabled.specs.Printing.{IsFitsAnswer}
use Rattle.tabled_output.specs.Building.{BuildRefusal, writing_fault}
use Rattle.tabled_output.specs.declared.building.BuildFault.{BuildFault}
use Rattle.tabled_output.specs.declared.building.BuildFault.TheVariants.{Table as OfTable, Write, WriteZero}
use Rattle.tabled_output.specs.declared.writing.WriteFault.{WriteFault}
use Rattle.tabled_output.specs.declared.writing.WriteFault.TheVariants.{Write as WriteFailed, WriteZero as WriterTookNothing}
use Rattle.tabled_steps.specs.States.{State}
use Rattle.basinmug_run.specs.Picture.Printed.{HasNoText, IsLate}

abbrev none-wide : Option Position
none-wide = None

-- a table fits or it does not
fits-once : (s : State) (fault : Fault) → IsFitsAnswer s (Ok tt) → ¬ (IsFitsAnswer s (Err fault))
fits-once s Memory fit out = out
fits-once s Range fit out = out.1 fit.1
fits-once s Spans fit out = out fit.0
fits-once s (Room row column) fit out = let it : none-wide ≡ Some (at row column) = sym fit.2 ∙ out.2 in cc it

late : (s : State) (fault : BuildFault) → IsFitsAnswer s (Ok tt) → BuildRefusal (IsFitsAnswer s (Ok tt)) (IsFitsAnswer s) fault → IsLate fault
late s (OfTable why) fit (inl is) = is
late s (OfTable why) fit (inr out) = absurd (fits-once s why fit out)
late s Write fit out = tt
late s WriteZero fit out = tt

pub late-told : (s : State) (r : Result (Unit {0}) BuildFault) → IsFitsAnswer s (Ok tt) → IfErr r (BuildRefusal (IsFitsAnswer s (Ok tt)) (IsFitsAnswer s)) → IfErr r IsLate
late-told s (Ok done) fit out = tt
late-told s (Err fault) fit out = late s fault fit out

refused : (s : State) (fault : BuildFault) → IsFitsAnswer s (Ok tt) → IsLate fault → BuildRefusal (IsFitsAnswer s (Ok tt)) (IsFitsAnswer s) fault
refused s (OfTable why) fit is = inl is
refused s Write fit is = fit
refused s WriteZero fit is = fit

pub refused-late : (s : State) (r : Result (Unit {0}) BuildFault) → IsFitsAnswer s (Ok tt) → IfErr r IsLate → IfErr r (BuildRefusal (IsFitsAnswer s (Ok tt)) (IsFitsAnswer s))
refused-late s (Ok done) fit out = tt
refused-late s (Err fault) fit out = refused s fault fit out

-- something may be written before such an error
begun : (fault : BuildFault) → IsLate fault → ¬ (HasNoText fault)
begun (OfTable why) is none = none is
begun Write is none = none
begun WriteZero is none = none

-- where there is no text, nothing of it is written
pub left-alone : (s : State) (fault : BuildFault) (Same Front : Type 0) → BuildRefusal (IsFitsAnswer s (Ok tt)) (IsFitsAnswer s) fault → Same ⊎ (IsFitsAnswer s (Ok tt) × Front) → HasNoText fault → Same
left-alone s fault Same Front out (inl same) none = same
left-alone s fault Same Front out (inr front) none = absurd (begun fault (late s fault front.0 out) none)

pub late-writing : (fault : WriteFault) → IsLate (writing_fault fault)
late-writing WriteFailed = tt
late-writing WriterTookNothing = tt
