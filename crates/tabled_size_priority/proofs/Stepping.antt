-- What a priority with leasts of its own answers, by the step that it takes.
use Rattle.std.proofs.Common.{ℕ, List, length, refl}
use Rattle.std.specs.Prelude.{Option}
use Rattle.tabled_size_priority.specs.Leasts.{AreCounted, NamesInTwoSteps, OwnLeasts, greater}
use Rattle.tabled_size_priority.specs.Peaking.{NoneAbove}

module _ {P : Type 0} (peaks : P → List ℕ → List ℕ → Option ℕ → P → Type 0) (before : OwnLeasts P) (least sizes : List ℕ) (answer : Option ℕ) (after : P) where
  pub step-without : ¬ (AreCounted before.leasts least sizes) → peaks before.priority least sizes answer after
      → NamesInTwoSteps peaks before least sizes answer (record { priority = after; leasts = before.leasts })
  step-without uncounted named = record {
    asked = least;
    steps = record { to_own = λ counted _. absurd (uncounted counted); and_on = λ _ _. refl; raised = λ counted. absurd (uncounted counted); without = λ _. (refl, refl) };
    named = named;
  }

  pub step-to-own : AreCounted before.leasts least sizes → ¬ (NoneAbove (greater before.leasts least) sizes (length sizes)) → peaks before.priority (greater before.leasts least) sizes answer after
      → NamesInTwoSteps peaks before least sizes answer (record { priority = after; leasts = greater before.leasts least })
  step-to-own counted some named = record {
    asked = greater before.leasts least;
    steps = record { to_own = λ _ _. refl; and_on = λ _ none. absurd (some none); raised = λ _. refl; without = λ uncounted. absurd (uncounted counted) };
    named = named;
  }

  pub step-on : AreCounted before.leasts least sizes → NoneAbove (greater before.leasts least) sizes (length sizes) → peaks before.priority least sizes answer after
      → NamesInTwoSteps peaks before least sizes answer (record { priority = after; leasts = greater before.leasts least })
  step-on counted none named = record {
    asked = least;
    steps = record { to_own = λ _ some. absurd (some none); and_on = λ _ _. refl; raised = λ _. refl; without = λ uncounted. absurd (uncounted counted) };
    named = named;
  }
