-- Definitions about the bytes that a reader gives and a writer takes, where they are known.
use Rattle.std.specs.Prelude.{ℕ, List, take, Option}
use Rattle.std.specs.Io.KnownBytes.{Appends, Consumes}

-- the reader gave some bytes, of which P holds
abbrev pub ConsumesSome : Option (List ℕ) → Option (List ℕ) → (List ℕ → Type 0) → Type 0
ConsumesSome old new P = (bytes : List ℕ) × Consumes old new bytes × P bytes

-- the writer took a prefix of the bytes, and nothing else
abbrev pub AppendsFront : Option (List ℕ) → Option (List ℕ) → List ℕ → Type 0
AppendsFront old new bytes = (n : ℕ) × Appends old new (take n bytes)
