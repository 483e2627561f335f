-- How wide or how high a table is as a whole.
use Rattle.std.specs.Prelude.{ℕ, ◌+◌, List, [], ◌∷◌, sum}

-- the sizes, the boundaries that exist, and the margins before and after; 0 where there are no sizes
abbrev pub total : List ℕ → ℕ → ℕ → ℕ → ℕ
total [] boundaries before behind = 0
total (size ∷ sizes) boundaries before behind = sum (size ∷ sizes) + boundaries + before + behind
