-- Tables that can be worked out by hand.
use Rattle.std.specs.Prelude.{ℕ, List, [], ◌∷◌, codes}
use Rattle.grid_config_values.specs.declared.sides.Indent.{Indent}
use Rattle.grid_config_values.specs.declared.sides.Sides.{Sides}

-- two rows: the texts of the first have one line and two, those of the second three and one
abbrev pub uneven : List (List (List ℕ))
uneven = (codes "a" ∷ codes "b\nc" ∷ []) ∷ (codes "d\ne\nf" ∷ codes "g" ∷ []) ∷ []

-- a margin of `top` lines at the top and of `bottom` lines at the bottom
abbrev pub margins : ℕ → ℕ → Sides Indent
margins top bottom =
    let none : Indent = record { size = 0; fill = 0x20 } in
    record { left = none; right = none; top = record { size = top; fill = 0x20 }; bottom = record { size = bottom; fill = 0x20 } }
