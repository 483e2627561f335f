-- Steps one after the other.
use Rattle.std.proofs.Common.{◌≡◌, ℕ, List, Result, Ok, Err, refl, subst}
use Rattle.grid_config_values.specs.declared.fault.Fault.{Fault}
use Rattle.grid_config_values.specs.declared.fault.Fault.TheVariants.{Memory, Range, Spans, Room}
use Rattle.grid_config.specs.Looks.{Look}
use Rattle.tabled_steps.specs.Outcomes.{MayRefuseStep}
use Rattle.tabled_steps.specs.States.{Outcome, State, Steps, column_count}
use Rattle.tabled_width.specs.WholeTables.Steps.{Measured}

pub may_be : {Y : Type 0} (fault : Fault) (P Q : Result Y Fault → Type 0) → ((answer : Result Y Fault) → P answer → Q answer) → MayRefuseStep fault P → MayRefuseStep fault Q
may_be Memory P Q leads may = tt
may_be Range P Q leads may = leads (Err Range) may
may_be Spans P Q leads may = leads (Err Spans) may
may_be (Room row column) P Q leads may = leads (Err (Room row column)) may

module _ (measures : ℕ → List (List (List ℕ)) → Look → Result ℕ Fault → Type 0) (step : ℕ → State → Outcome → Type 0) (old : State)
    (columns : ℕ) (look : Look) (counted : columns ≡ column_count old.rows) (seen : look ≡ old.look) where
  measured_here : (size : Result ℕ Fault) → measures columns old.rows look size → measures (column_count old.rows) old.rows old.look size
  measured_here size given =
      subst (λ (n : ℕ). measures n old.rows old.look size) counted (subst (λ (look : Look). measures columns old.rows look size) seen given)

  -- a step with the size that was measured
  pub measured_steps : {T : Type 0} (n : ℕ) (result : Result T Fault) (new : State) → measures columns old.rows look (Ok n) → Steps (step n) result old new → Steps (Measured measures step) result old new
  measured_steps n (Ok done) new given stepped = (Ok n, measured_here (Ok n) given, stepped)
  measured_steps n (Err fault) new given stepped =
      (stepped.0, may_be fault (step n old) (Measured measures step old) (λ answer is. (Ok n, measured_here (Ok n) given, is)) stepped.1)

  -- a size that is refused refuses the step
  pub measured_refused : (fault : Fault) → MayRefuseStep fault (measures columns old.rows look) → MayRefuseStep fault (Measured measures step old)
  measured_refused Memory may = tt
  measured_refused Range may = (Err Range, measured_here (Err Range) may, refl)
  measured_refused Spans may = (Err Spans, measured_here (Err Spans) may, refl)
  measured_refused (Room row column) may = (Err (Room row column), measured_here (Err (Room row column)) may, refl)
