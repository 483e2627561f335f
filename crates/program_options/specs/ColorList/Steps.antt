-- What the steps of a reading keep.
use Rattle.std.specs.Prelude.{List, [], ◌∷◌, ◌++◌, Option, None, Some}

-- a list with one more, where it is there
abbrev pub with_one_more : {X : Type 0} → List X → Option X → Option (List X)
with_one_more xs None = None
with_one_more xs (Some x) = Some (xs ++ x ∷ [])
