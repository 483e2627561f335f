-- Spaces among other bytes.
use Rattle.std.specs.Prelude.{◌≡◌, ◌++◌, ℕ, List, IsCharBoundary, length, replicate, take}
use Rattle.std.specs.Str.{IsUtf8}

-- the first n bytes are spaces, and a text comes after them
pub record IsSpaced (n : ℕ) (bytes : List ℕ) : Type 0 where
  pub spaces : take n bytes ≡ replicate n 0x20
  pub behind : IsCharBoundary bytes n

-- from this place on there are so many spaces, and a text comes after them
pub record HasSpaces (bytes : List ℕ) (start count : ℕ) : Type 0 where
  pub before : List ℕ
  pub after : List ℕ
  pub parts : bytes ≡ before ++ (replicate count 0x20 ++ after)
  pub place : start ≡ length before
  pub text : IsUtf8 after
