-- Memory that is filled with bytes from its start, as far as they fit.
use Rattle.std.specs.Prelude.{ℕ, List, ◌++◌, drop, length, take}

-- the memory with these bytes from its start: as many of them as fit, and what is after them stays
abbrev pub filled : List ℕ → List ℕ → List ℕ
filled memory bytes = take (length memory) bytes ++ drop (length bytes) memory

-- the same from a place on; what is before the place stays
abbrev pub filled_from : ℕ → List ℕ → List ℕ → List ℕ
filled_from place memory bytes = take place memory ++ filled (drop place memory) bytes
