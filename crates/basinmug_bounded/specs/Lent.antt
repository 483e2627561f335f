-- A writer that is lent.
use Rattle.std.specs.Prelude.{ℕ, List, ◌∷◌, Option, option_map}
use Rattle.basinmug_bounded.specs.declared.lent.Lent.{Lent}

-- what is known, after a name
abbrev pub named : ℕ → Option (List ℕ) → Option (List ℕ)
named name known = option_map (λ held. name ∷ held) known

-- its name, and what it holds, if that is known: two borrows of one name are the same
abbrev pub lent_of : {W : Type 0} → (W → Option (List ℕ)) → Lent W → Option (List ℕ)
lent_of contents lent = named lent.writer.ghost_name (contents lent.writer.now)

-- how many bytes it still takes
abbrev pub left_of : {W : Type 0} → (W → ℕ) → Lent W → ℕ
left_of left lent = left lent.writer.now
