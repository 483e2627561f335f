-- Memory that is filled piece by piece.
use Rattle.std.proofs.Common.{◌≡◌, ℕ, List, [], ◌∷◌, ◌++◌, ap, arith, drop, length, refl, sym}
use Rattle.std.proofs.lemmas.List.{drop_all}
use Rattle.bounded_output.specs.Filled.{filled, filled_from}

-- no memory stays none
filled-none : (bytes : List ℕ) → filled [] bytes ≡ []
filled-none bytes = drop_all (length bytes) [] (omega arith)

-- no bytes change nothing
filled-with_none : (memory : List ℕ) → filled memory [] ≡ memory
filled-with_none [] = refl
filled-with_none (byte ∷ memory) = refl

-- bytes that come after those in memory begin at the place where these end
pub filled-more : (memory taken piece : List ℕ) → filled memory (taken ++ piece) ≡ filled_from (length taken) (filled memory taken) piece
filled-more [] [] piece = refl
filled-more [] (first ∷ taken) piece = sym (filled-none piece)
filled-more (byte ∷ memory) [] piece = sym (ap (λ memory. filled_from 0 memory piece) (filled-with_none (byte ∷ memory)))
filled-more (byte ∷ memory) (first ∷ taken) piece = ap (λ rest. first ∷ rest) (filled-more memory taken piece)
