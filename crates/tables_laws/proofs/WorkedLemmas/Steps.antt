-- Settings of one outcome: what they lead to, and what that prints, is computed.
use Rattle.std.proofs.Common.{◌≡◌, ◌∙◌, ℕ, List, Err, Ok, Some, ap, sym}
use Rattle.grid_config.specs.Colors.{Color}
use Rattle.grid_config.specs.Looks.{Look}
use Rattle.grid_config_values.specs.declared.entity.Entity.{Entity}
use Rattle.grid_config_values.specs.declared.entity.Entity.TheVariants.{Global as EveryCell}
use Rattle.grid_config_values.specs.declared.fault.Fault.{Fault}
use Rattle.tabled_list.specs.Stripping.Printing.{printed}
use Rattle.tabled_size.specs.Dimension.Stored.{none_stored}
use Rattle.tabled_steps.specs.Looks.{covering}
use Rattle.tabled_steps.specs.States.{Outcome, Settles, State, settled}

-- the state with another look, or another colour of some cells, that keeps no size
abbrev pub looked : (Look → Look) → State → State
looked change s = record s { look = change s.look; sizes = none_stored }

abbrev pub colored_by : Entity → Color → State → State
colored_by entity color s = record s { colors = covering entity (Some color) s.colors; sizes = none_stored }

module _ (step : State → Outcome) (s : State) where
  outcome-is : (outcome : Outcome) → Settles (Some EveryCell) (λ state changed. step state ≡ changed) s outcome → outcome ≡ settled (Some EveryCell) (step s)
  outcome-is outcome taken = sym taken.2 ∙ ap (settled (Some EveryCell)) (sym taken.1)

  pub one-outcome : (left : State) (text : List ℕ) → settled (Some EveryCell) (step s) ≡ Ok left → printed left ≡ text
      → (outcome : Outcome) → Settles (Some EveryCell) (λ state changed. step state ≡ changed) s outcome → (left : State) × (outcome ≡ Ok left) × (printed left ≡ text)
  one-outcome left text is prints outcome taken = (left, outcome-is outcome taken ∙ is, prints)

  pub refused : (fault : Fault) (outcome : Outcome) → settled (Some EveryCell) (step s) ≡ Err fault → Settles (Some EveryCell) (λ state changed. step state ≡ changed) s outcome → outcome ≡ Err fault
  refused fault outcome is taken = outcome-is outcome taken ∙ is
