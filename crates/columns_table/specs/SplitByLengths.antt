-- A list split by lengths.
use Rattle.std.specs.Prelude.{ℕ, List, [], ◌∷◌, drop, take}

-- a list in parts of these lengths, one after the other
abbrev pub split_by_lengths : {X : Type 0} → List ℕ → List X → List (List X)
split_by_lengths [] xs = []
split_by_lengths (n ∷ ns) xs = take n xs ∷ split_by_lengths ns (drop n xs)
