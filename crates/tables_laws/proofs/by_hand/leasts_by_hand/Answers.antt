-- Its own leasts count: there is one for each column.
use Rattle.std.proofs.Common.{◌≡◌, ◌∷◌, ◌<◌, ℕ, List, [], arith, length, refl, suc, zero}
use Rattle.tabled_size_priority.specs.Leasts.{AreCounted}
use Rattle.tabled_size_priority.specs.Peaking.{NoneAbove}
use Rattle.tables_laws.proofs.by_hand.leasts_by_hand.Goals as goal

counted : (sizes : List ℕ) → length sizes ≡ 2 → AreCounted (3 ∷ 3 ∷ []) (1 ∷ 1 ∷ []) sizes
counted sizes two = let some : 0 < 2 = omega arith in (some, omega (arith, two))

one-above : NoneAbove (3 ∷ 3 ∷ []) (5 ∷ 3 ∷ []) 2 → ⊥
one-above none = let first = none 0 (omega arith) in absurd (omega (arith, first))

pub returns-clause-first : goal.returns-clause-first
returns-clause-first c = λ asked kept steps. (steps.to_own (counted (5 ∷ 3 ∷ []) refl) one-above, steps.raised (counted (5 ∷ 3 ∷ []) refl))

none-above : NoneAbove (3 ∷ 3 ∷ []) (3 ∷ 3 ∷ []) 2
none-above zero inside = omega arith
none-above (suc zero) inside = omega arith
none-above (suc (suc other)) inside = absurd (omega (arith, inside))

pub returns-clause-second : goal.returns-clause-second
returns-clause-second c = λ asked kept steps. steps.and_on (counted (3 ∷ 3 ∷ []) refl) none-above
