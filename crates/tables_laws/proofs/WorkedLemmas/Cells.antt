-- Steps on cells by an exact width or height have one outcome.
use Rattle.std.proofs.Common.{◌≡◌, ℕ, Result, Err, Ok, Some}
use Rattle.std.specs.Prelude.{MatchResult}
use Rattle.grid_config_values.specs.declared.entity.Entity.TheVariants.{Global as EveryCell}
use Rattle.grid_config_values.specs.declared.fault.Fault.{Fault}
use Rattle.tabled_height.specs.Steps.{MeasuredHeight}
use Rattle.tabled_width.specs.Steps.{Measured, Then}
use Rattle.tabled_steps.specs.States.{Outcome, Settles, State}

module _ (step : ℕ → State → Outcome) (n : ℕ) (s : State) where
  pub exact-width : (outcome : Outcome) → Settles (Some EveryCell) (Measured (λ columns rows look size. Ok n ≡ size) (λ m state changed. step m state ≡ changed)) s outcome
      → Settles (Some EveryCell) (λ state changed. step n state ≡ changed) s outcome
  exact-width outcome taken = (taken.0, is taken.0 taken.1.0 taken.1.1 taken.1.2, taken.2)
    where
      is : (changed : Outcome) (size : Result ℕ Fault) → Ok n ≡ size → Then size (λ m left. step m s ≡ left) changed → step n s ≡ changed
      is changed (Ok m) same done = cc (same, done)
      is changed (Err fault) same done = cc same

  pub exact-height : (outcome : Outcome) → Settles (Some EveryCell) (MeasuredHeight (λ columns rows look size. Ok n ≡ size) (λ m state changed. step m state ≡ changed)) s outcome
      → Settles (Some EveryCell) (λ state changed. step n state ≡ changed) s outcome
  exact-height outcome taken = (taken.0, is taken.0 taken.1.0 taken.1.1 taken.1.2, taken.2)
    where
      is : (changed : Outcome) (size : Result ℕ Fault) → Ok n ≡ size → MatchResult size (λ m. step m s ≡ changed) (λ fault. Err fault ≡ changed) → step n s ≡ changed
      is changed (Ok m) same done = cc (same, done)
      is changed (Err fault) same done = cc same
