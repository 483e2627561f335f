-- The step of an option that was made by name.
use Rattle.std.proofs.Common.{◌≡◌, None, Some, Result, subst}
use Rattle.grid_config_values.specs.declared.entity.Entity.TheVariants.{Row as OneRow}
use Rattle.grid_config_values.specs.declared.fault.Fault.{Fault}
use Rattle.tabled_list.specs.Amounts.{width_of}
use Rattle.tabled_list.specs.Priorities.{NarrowsBy, WidensBy}
use Rattle.tabled_list.specs.declared.amount.Amount.{Amount}
use Rattle.tabled_size_priority.specs.Choices.{IsGrownByChoice, IsShrunkByChoice}
use Rattle.tabled_size_priority.specs.declared.choice.Choice.{Choice}
use Rattle.tabled_steps.specs.States.{Settles, State, Steps}
use Rattle.tabled_width.specs.WrappedOrCut.{wrapping_each}
use Rattle.tabled_width.specs.Options.{Widening, Wrapping}

module _ {T P : Type 0} (choice : Choice) (result : Result T Fault) (old new : State) where
  pub wraps : (it same : Wrapping Amount P) → it ≡ same →
      Steps (Settles (Some (OneRow 0)) (NarrowsBy (IsShrunkByChoice choice) (wrapping_each it.keep_words) (width_of it.width))) result old new →
      Steps (Settles (Some (OneRow 0)) (NarrowsBy (IsShrunkByChoice choice) (wrapping_each same.keep_words) (width_of same.width))) result old new
  wraps it same is stepped = subst (λ (it : Wrapping Amount P). Steps (Settles (Some (OneRow 0)) (NarrowsBy (IsShrunkByChoice choice) (wrapping_each it.keep_words) (width_of it.width))) result old new) is stepped

  pub widens : (it same : Widening Amount P) → it ≡ same →
      Steps (Settles None (WidensBy (IsGrownByChoice choice) (width_of it.width))) result old new →
      Steps (Settles None (WidensBy (IsGrownByChoice choice) (width_of same.width))) result old new
  widens it same is stepped = subst (λ (it : Widening Amount P). Steps (Settles None (WidensBy (IsGrownByChoice choice) (width_of it.width))) result old new) is stepped
