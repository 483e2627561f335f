-- Heights that are estimated again, and the step that they make.
use Rattle.std.proofs.Common.{◌≡◌, ◌∙◌, ◌++◌, ℕ, Bool, true, false, List, Option, None, Some, Ok, Err, ap, arith, drop, inl, inr, length, refl, subst, sym, take}
use Rattle.std.proofs.Math.Seq.{take-append_seam}
use Rattle.std.specs.Prelude.{◌⊎◌, Result}
use Rattle.grid_config_values.specs.declared.fault.Fault.{Fault}
use Rattle.grid_config.specs.Colors.{Color}
use Rattle.grid_config.specs.Looks.{look_of}
use Rattle.grid_config.specs.Settings.{Settings}
use Rattle.grid_config_values.specs.declared.position.Position.{Position}
use Rattle.tabled_size.specs.Dimension.Stored.{Stored}
use Rattle.tabled_steps.specs.Outcomes.{MayRefuseStep}
use Rattle.tabled_steps.specs.States.{Outcome, State, Steps, StepsTo, column_count, state_with}
use Rattle.tabled_height.proofs.Giving.{may_follow}
use Rattle.tabled_height.specs.Heights.{HeightEstimate, estimate_with, estimated}
use Rattle.tabled_height.specs.Steps.{AsksRows, MeasuredHeight, Measuring, Resizes, WhereCells, has_no_cells}

-- what was lent of a list as a whole is there again
pub written_back : (items lent new : List ℕ) (n : ℕ) → n ≡ length items → lent ≡ items → length new ≡ length lent → take n (new ++ drop (length new) items) ≡ new
written_back items lent new n count is same =
    ap (λ (k : ℕ). take k (new ++ drop (length new) items)) (count ∙ sym (ap length is) ∙ sym same) ∙ take-append_seam new (drop (length new) items)

conflict : (b : Bool) → b ≡ true → b ≡ false → ⊥
conflict b holds fails = grind (arith, holds, fails)

-- ---- the step of a table of which a height is requested

module _ (measures : Measuring) (finds : ℕ → HeightEstimate → Option (List ℕ) → Type 0) (change : Option (List ℕ) → State → State) (rows : List (List (List ℕ))) (settings lent : Settings) (colors : Position → Option Color) (sizes : Stored)
    (columns : ℕ) (counted : columns ≡ column_count rows) (is_lent : lent ≡ settings) where
  abbrev here : State
  here = state_with rows (look_of settings) colors sizes

  abbrev asked : Result (Option (HeightEstimate × ℕ)) Fault → Type 0
  asked = AsksRows measures columns rows (look_of lent)

  abbrev Step : State → Outcome → Type 0
  Step = WhereCells (MeasuredHeight measures (λ height. Resizes (finds height) change))

  asked_here : (outcome : Result (Option (HeightEstimate × ℕ)) Fault) → asked outcome → AsksRows measures (column_count rows) rows (look_of settings) outcome
  asked_here outcome asks =
      subst (λ (n : ℕ). AsksRows measures n rows (look_of settings) outcome) counted (subst (λ (s : Settings). AsksRows measures columns rows (look_of s) outcome) is_lent asks)

  pub asked-none : asked (Ok None) → Step here (Ok here)
  asked-none asks = record { without_cells = λ _. refl; with_cells = λ some. absurd (conflict (has_no_cells here) (asked_here (Ok None) asks) some) }

  refused : (fault : Fault) → has_no_cells here ≡ false →
      measures (column_count rows) rows (look_of settings) (Err fault) ⊎ ((n : ℕ) × measures (column_count rows) rows (look_of settings) (Ok n) × (estimated (look_of settings) (column_count rows) rows ≡ Err fault))
      → Step here (Err fault)
  refused fault some (inl measure) = record { without_cells = λ none. absurd (conflict (has_no_cells here) none some); with_cells = λ _. (Err fault, measure, refl) }
  refused fault some (inr measured) = record { without_cells = λ none. absurd (conflict (has_no_cells here) none some); with_cells = λ _. (Ok measured.0, measured.1, rw measured.2 refl) }

  pub asked-refused : (fault : Fault) → MayRefuseStep fault asked → MayRefuseStep fault (Step here)
  asked-refused fault may = may_follow fault asked (Step here) (λ f asks. let known = asked_here (Err f) asks in refused f known.0 known.1) may

  resized : (heights : List ℕ) (lines n : ℕ) (found : Option (List ℕ)) (outcome : Outcome) → asked (Ok (Some (estimate_with heights lines, n))) → finds n (estimate_with heights lines) found
      → Ok (change found here) ≡ outcome → Step here outcome
  resized heights lines n found outcome asks finds_it is =
      let known = asked_here (Ok (Some (estimate_with heights lines, n))) asks in
      record { without_cells = λ none. absurd (conflict (has_no_cells here) none known.0); with_cells = λ _. (Ok n, known.1, rw known.2 (found, finds_it, is)) }

  -- the table is changed by what was found, or that is refused
  pub asked-done : {T : Type 0} (result : Result T Fault) (heights : List ℕ) (lines n : ℕ) (found : Option (List ℕ)) (new : State) → asked (Ok (Some (estimate_with heights lines, n)))
      → finds n (estimate_with heights lines) found → StepsTo (λ s. Ok (change found s)) result here new → Steps Step result here new
  asked-done (Ok done) heights lines n found new asks finds_it steps = resized heights lines n found (Ok new) asks finds_it steps
  asked-done (Err fault) heights lines n found new asks finds_it steps =
      (steps.0, may_follow fault (λ outcome. Ok (change found here) ≡ outcome) (Step here) (λ f is. resized heights lines n found (Err f) asks finds_it is) steps.1)
