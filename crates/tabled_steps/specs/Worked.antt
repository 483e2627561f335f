-- Tables that can be worked out by hand.
use Rattle.std.specs.Prelude.{ℕ, List, [], ◌∷◌, Some, codes}
use Rattle.tabled_steps.specs.States.{State}

-- two rows of two texts
abbrev pub letters : List (List (List ℕ))
letters = (codes "a" ∷ codes "b" ∷ []) ∷ (codes "c" ∷ codes "d" ∷ []) ∷ []

-- a width and a height are kept
abbrev pub keeping : State → State
keeping s = record s { sizes = record { widths = Some (3 ∷ []); heights = Some (1 ∷ []) } }
