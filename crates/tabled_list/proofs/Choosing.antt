-- Which priorities are those of a name.
use Rattle.std.proofs.Common.{◌≡◌, ℕ, Bool, true, false, List, length, subst, sym}
use Rattle.tabled_list.specs.Priorities.{IsNamed}
use Rattle.tabled_size_priority.specs.Growing.{IsGrownByNarrowest, IsGrownByWidest, IsGrownFromSide, IsGrownInTurns}
use Rattle.tabled_size_priority.specs.Laws.Turning.{start_of_zero}
use Rattle.tabled_size_priority.specs.Shrinking.{IsShrunkByNarrowest, IsShrunkByWidest, IsShrunkFromSide, IsShrunkInTurns}
use Rattle.tabled_size_priority.specs.Turns.{grows_in_turns, shrinks_in_turns}
use Rattle.tabled_size_priority.specs.declared.choice.Choice.TheVariants.{None, MinLeft, MinRight, MaxLeft, MaxRight, Left, Right}

abbrev narrowest_shrinks : Bool → List ℕ → ℕ → List ℕ → Bool → List ℕ → Type 0
narrowest_shrinks right least by widths after sizes = IsShrunkByNarrowest right least by widths sizes × (after ≡ right)

abbrev narrowest_grows : Bool → ℕ → List ℕ → Bool → List ℕ → Type 0
narrowest_grows right by widths after sizes = IsGrownByNarrowest right by widths sizes × (after ≡ right)

abbrev widest_shrinks : Bool → List ℕ → ℕ → List ℕ → Bool → List ℕ → Type 0
widest_shrinks right least by widths after sizes = IsShrunkByWidest right least by widths sizes × (after ≡ right)

abbrev widest_grows : Bool → ℕ → List ℕ → Bool → List ℕ → Type 0
widest_grows right by widths after sizes = IsGrownByWidest right by widths sizes × (after ≡ right)

abbrev side_shrinks : {P : Type 0} → Bool → P → List ℕ → ℕ → List ℕ → P → List ℕ → Type 0
side_shrinks right before least by widths after sizes = IsShrunkFromSide right least by widths sizes

abbrev side_grows : {P : Type 0} → Bool → P → ℕ → List ℕ → P → List ℕ → Type 0
side_grows right before by widths after sizes = IsGrownFromSide right by widths sizes

pub in_turns : (next : ℕ) → next ≡ 0 → IsNamed shrinks_in_turns grows_in_turns next None
in_turns next first =
    subst (λ (next : ℕ). IsNamed shrinks_in_turns grows_in_turns next None) (sym first)
    record {
      shrunk = λ least by sizes left it. subst (λ (start : ℕ). IsShrunkInTurns start least by sizes left) (start_of_zero (length sizes)) it.1.0;
      grown = λ by sizes more it. subst (λ (start : ℕ). IsGrownInTurns start by sizes more) (start_of_zero (length sizes)) it.1.0;
    }

pub min_left : (right : Bool) → right ≡ false → IsNamed narrowest_shrinks narrowest_grows right MinLeft
min_left right is = subst (λ (right : Bool). IsNamed narrowest_shrinks narrowest_grows right MinLeft) (sym is) record { shrunk = λ least by sizes left it. it.1.0; grown = λ by sizes more it. it.1.0 }

pub min_right : (right : Bool) → right ≡ true → IsNamed narrowest_shrinks narrowest_grows right MinRight
min_right right is = subst (λ (right : Bool). IsNamed narrowest_shrinks narrowest_grows right MinRight) (sym is) record { shrunk = λ least by sizes left it. it.1.0; grown = λ by sizes more it. it.1.0 }

pub max_left : (right : Bool) → right ≡ false → IsNamed widest_shrinks widest_grows right MaxLeft
max_left right is = subst (λ (right : Bool). IsNamed widest_shrinks widest_grows right MaxLeft) (sym is) record { shrunk = λ least by sizes left it. it.1.0; grown = λ by sizes more it. it.1.0 }

pub max_right : (right : Bool) → right ≡ true → IsNamed widest_shrinks widest_grows right MaxRight
max_right right is = subst (λ (right : Bool). IsNamed widest_shrinks widest_grows right MaxRight) (sym is) record { shrunk = λ least by sizes left it. it.1.0; grown = λ by sizes more it. it.1.0 }

pub from_left : {P : Type 0} (priority : P) → IsNamed (side_shrinks false) (side_grows false) priority Left
from_left {P} priority = record { shrunk = λ least by sizes left it. it.1; grown = λ by sizes more it. it.1 }

pub from_right : {P : Type 0} (priority : P) → IsNamed (side_shrinks true) (side_grows true) priority Right
from_right {P} priority = record { shrunk = λ least by sizes left it. it.1; grown = λ by sizes more it. it.1 }
