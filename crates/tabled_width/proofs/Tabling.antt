-- Tables that have rows and columns, and steps that are done there alone.
use Rattle.std.proofs.Common.{◌≡◌, ℕ, ◌<◌, ◌==◌, Bool, true, Result, Ok, Err, sym, subst, arith}
use Rattle.std.specs.Prelude.{◌&&◌, not}
use Rattle.std.proofs.lemmas.Bool.Decides.{nat_tests}
use Rattle.grid_config_values.specs.declared.fault.Fault.{Fault}
use Rattle.tabled_steps.specs.Outcomes.{MayRefuseStep}
use Rattle.tabled_steps.specs.States.{Outcome, State, Steps}
use Rattle.tabled_width.specs.WholeTables.Tables.{Where}

pub some_cells : (rows columns : ℕ) → 0 < rows → 0 < columns → (not (rows == 0) && not (columns == 0)) ≡ true
some_cells rows columns some more = grind (arith, nat_tests)

-- a step that is done, since the test holds
pub where_holds : {T : Type 0} (test : State → Bool) (step : State → Outcome → Type 0) (result : Result T Fault) (old new : State) → test old ≡ true →
    Steps step result old new → Steps (λ s. Where (test s) step s) result old new
where_holds test step (Ok done) old new is stepped = subst (λ b. Where b step old (Ok new)) (sym is) stepped
where_holds test step (Err fault) old new is stepped = (stepped.0, subst (λ b. MayRefuseStep fault (Where b step old)) (sym is) stepped.1)
